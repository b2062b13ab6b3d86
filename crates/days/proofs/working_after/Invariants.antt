-- `days::working_after` meets its contract. The loop's invariant: the search from `d` with `left` days to step finds the
-- day that is asked for. The measure is the days left. Nothing here looks into what makes a day open.
use Prim.Native.Nat.{◌+◌, ◌≤◌}
use mathlib.Core.Path.{◌≡◌}
use Rattle.paper.specs.Days.{first_open, working_after}
use Rattle.days.proofs.working_after.Given as goal

abbrev pub invariant-loop-left : goal.invariant-loop-left
invariant-loop-left l = (l.d + l.left ≤ l.day + 5) × (working_after l.day ≡ first_open l.left l.d)

abbrev pub decreases-loop-left : goal.decreases-loop-left
decreases-loop-left l = l.left
