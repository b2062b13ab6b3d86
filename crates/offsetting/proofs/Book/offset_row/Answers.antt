-- `Book::offset_row` meets its contract: its test tells a row that names one class from a row that names two.
use Rattle.std.proofs.Common.{ap, sym, ◌∙◌}
use borrow.Author.Tests.{eq-eqb, ne_eqb}
use Rattle.paper.specs.Units.{Class}
use Rattle.paper.specs.Offsetting.{offset}
use Rattle.paper.proofs.Offsetting.{row_one, row_two}
use Rattle.offsetting.specs.Books.{book_of, row_of}
use Rattle.offsetting.proofs.Book.offset_row.Goals as goal

pub returns-then-n-m : goal.returns-then-n-m
returns-then-n-m c =
    let row = c.args.row in
    c.offset-then-n-m.ensures
    ∙ ap (offset row.factor row.second row.first) c.offset.ensures
    ∙ sym (row_two (row_of row) (book_of c.args.self.now) (ne_eqb _ _ c.if-n-m.true))

pub returns-else-n-m : goal.returns-else-n-m
returns-else-n-m c =
    let row = c.args.row in
    let book = book_of c.args.self.now in
    c.offset.ensures
    ∙ ap (λ (m : Class). offset row.factor row.first m book) (sym c.if-n-m.false)
    ∙ sym (row_one (row_of row) book (eq-eqb _ _ c.if-n-m.false))
