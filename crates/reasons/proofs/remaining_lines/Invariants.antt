-- `reasons::remaining_lines` meets its contract. The loop's invariant: the positions are those that the first `i` rows leave, and
-- their R lines are written.
use Rattle.std.proofs.Common.{◌≡◌}
use Rattle.offsetting.specs.Books.{book_of}
use Rattle.lines.specs.Written.{Wrote}
use Rattle.report.proofs.Loops.{texts}
use Rattle.reasons.specs.Texts.{left_by, row_text_at}
use Rattle.reasons.proofs.remaining_lines.Given as goal

abbrev pub invariant-loop-i : goal.invariant-loop-i
invariant-loop-i l =
    (book_of l.book ≡ left_by l.priorities (book_of l.initial.book) l.i)
    × Wrote (texts (row_text_at l.first l.priorities l.class (book_of l.initial.book)) l.i) l.from l.initial.report l.at l.report
