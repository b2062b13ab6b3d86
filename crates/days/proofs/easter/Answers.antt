-- `days::easter` meets its contract: its steps are the paper's, and each sum is of a day of the 400 years and few days.
use Prim.Native.Nat.{ℕ, ◌+◌, ◌≤◌, ◌<◌}
use native.Mathlib.Omega.{arith}
use mathlib.Core.Path.{◌≡◌}
use Rattle.paper.specs.Units.{Year}
use Rattle.paper.specs.Days.{day_in, spring_moon}
use Rattle.paper.proofs.Calendar.{moon_below}
use Rattle.days.proofs.easter.Goals as goal

-- The moon's day as the code has it is below what the paper's is
moon-fits : (y : Year) (march moon : ℕ) → (2000 ≤ y) × (y ≤ 2399) → march ≡ day_in y 2 20 → moon ≡ spring_moon y → march + moon < 146_125
moon-fits y march moon r p q = rw (p, q) (moon_below y r)

pub overflow_add-moon : goal.overflow_add-moon
overflow_add-moon c = omega (arith, moon-fits c.args.y _ _ c.requires c.day_in.ensures c.spring_moon.ensures)

pub overflow_add-next : goal.overflow_add-next
overflow_add-next c = omega (arith, moon-fits c.args.y _ _ c.requires c.day_in.ensures c.spring_moon.ensures)

pub overflow_add-result : goal.overflow_add-result
overflow_add-result c = omega (arith, moon-fits c.args.y _ _ c.requires c.day_in.ensures c.spring_moon.ensures)
