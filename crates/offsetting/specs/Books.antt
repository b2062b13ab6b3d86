-- The paper's book and priority row, from what the code holds.
use Rattle.paper.specs.Rows as paper_rows
use Rattle.paper.specs.Offsetting as paper
use Rattle.tables.specs.declared.PriorityRow.{PriorityRow}
use Rattle.offsetting.specs.declared.Book.{Book}

-- The positions of all classes in one currency, whole units
abbrev pub book_of : Book → paper.Book
book_of b = record { long = b.long; short = b.short }

-- ... and back: as the code holds them
abbrev pub held_book : paper.Book → Book
held_book b = record { long = b.long; short = b.short }

-- An O row
abbrev pub row_of : PriorityRow → paper_rows.PriorityRow
row_of o = record { first = o.first; second = o.second; factor = o.factor }
