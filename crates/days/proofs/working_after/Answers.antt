-- `days::working_after` meets its contract. The loop's invariant: the search from `d` with `left` days to step finds the
-- day that is asked for. The measure is the days left. Nothing here looks into what makes a day open.
use Prim.Native.Nat.{suc, ◌+◌}
use native.Mathlib.Omega.{arith}
use mathlib.Core.Path.{◌≡◌, ap}
use Rattle.paper.specs.Days.{first_open, days_tested, working_after}
use Rattle.days.proofs.working_after.Goals as goal

pub loop-left-init : goal.loop-left-init
unfolding working_after
loop-left-init c =
    let next : suc c.args.day ≡ c.args.day + 1 = omega arith in
    (omega arith, ap (first_open days_tested) next)
