-- `Book::offset` meets its contract: what `share` gives is what the factor takes of the two positions, and no more than either.
use Rattle.std.proofs.Common.{arith}
use Rattle.paper.proofs.Offsetting.{taken_there}
use Rattle.offsetting.specs.Books.{book_of}
use Rattle.offsetting.proofs.Book.offset.Goals as goal

pub overflow_sub-self : goal.overflow_sub-self
overflow_sub-self c =
    let a = c.args in
    grind (arith, taken_there a.factor a.n a.m (book_of a.self.now) c.requires.2)

pub overflow_sub-self-2 : goal.overflow_sub-self-2
overflow_sub-self-2 c =
    let a = c.args in
    grind (arith, taken_there a.factor a.n a.m (book_of a.self.now) c.requires.2)
