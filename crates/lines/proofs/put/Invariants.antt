-- `lines::put` meets its contract. The loop's invariant: the first `i` bytes of the text are written.
use mathlib.Core.Path.{◌≡◌}
use lib.ListN.{take}
use Rattle.lines.specs.Written.{written}
use Rattle.lines.proofs.put.Given as goal

abbrev pub invariant-loop-i : goal.invariant-loop-i
invariant-loop-i l = l.report ≡ written (take l.i l.text) l.at l.initial.report
