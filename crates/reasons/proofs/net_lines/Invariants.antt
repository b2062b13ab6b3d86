-- `reasons::net_lines` meets its contract. The loop's invariant: the P lines of the first `i` securities are written.
use Rattle.lines.specs.Written.{Wrote}
use Rattle.report.proofs.Loops.{texts}
use Rattle.reasons.specs.Texts.{net_text}
use Rattle.reasons.proofs.net_lines.Given as goal

abbrev pub invariant-loop-i : goal.invariant-loop-i
invariant-loop-i l =
    Wrote (texts (net_text l.securities l.worths l.rank l.class) l.i) 0 l.initial.report l.at l.report
