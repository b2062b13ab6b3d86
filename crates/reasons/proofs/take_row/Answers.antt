-- `reasons::take_row` meets its contract: what the row met of the class less what it left is what it took.
use native.Mathlib.Omega.{arith}
use mathlib.Core.Path.{ap}
use Rattle.paper.specs.Offsetting.{Book, position}
use Rattle.paper.proofs.Offsetting.{row_lowers}
use Rattle.offsetting.specs.Books.{book_of, row_of}
use Rattle.reasons.proofs.take_row.Goals as goal

pub overflow_sub-long_met : goal.overflow_sub-long_met
overflow_sub-long_met c =
    let a = c.args in
    omega (arith, ap (λ (b : Book). position b.long a.class) c.offset_row.ensures, (row_lowers (row_of a.row) (book_of a.book.now) a.class).0)

pub overflow_sub-short_met : goal.overflow_sub-short_met
overflow_sub-short_met c =
    let a = c.args in
    omega (arith, ap (λ (b : Book). position b.short a.class) c.offset_row.ensures, (row_lowers (row_of a.row) (book_of a.book.now) a.class).1)
