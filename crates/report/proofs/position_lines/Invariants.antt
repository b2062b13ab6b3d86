-- `report::position_lines` meets its contract. The loop's invariant: the K lines of the first `i` classes are written.
use Rattle.lines.specs.Written.{Wrote}
use Rattle.report.specs.Texts.{position_text}
use Rattle.report.proofs.Loops.{texts}
use Rattle.report.proofs.position_lines.Given as goal

abbrev pub invariant-loop-i : goal.invariant-loop-i
invariant-loop-i l =
    Wrote (texts (position_text l.full l.money l.classes l.figures) l.i) l.from l.initial.report l.next l.report
