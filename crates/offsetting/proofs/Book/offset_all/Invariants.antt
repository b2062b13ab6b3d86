-- `Book::offset_all` meets its contract. The loop's invariant: the positions are what the first rows leave.
use Rattle.std.proofs.Common.{◌≡◌, map, take}
use Rattle.paper.specs.Offsetting.{offset_all}
use Rattle.offsetting.specs.Books.{book_of, row_of}
use Rattle.offsetting.proofs.Book.offset_all.Given as goal

abbrev pub invariant-loop-row : goal.invariant-loop-row
invariant-loop-row l = book_of l.self ≡ offset_all (map row_of (take l.row-index l.rows)) (book_of l.fn.self)
