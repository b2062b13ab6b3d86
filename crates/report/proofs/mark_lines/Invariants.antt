-- `report::mark_lines` meets its contract. The loop's invariant: the M lines of the first `i` trades are written.
use Rattle.lines.specs.Written.{Wrote}
use Rattle.report.specs.Texts.{mark_text}
use Rattle.report.proofs.Loops.{texts}
use Rattle.report.proofs.mark_lines.Given as goal

abbrev pub invariant-loop-i : goal.invariant-loop-i
invariant-loop-i l = Wrote (texts (mark_text l.tables l.figures) l.i) 0 l.initial.report l.at l.report
