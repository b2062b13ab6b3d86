-- `days::days_before` meets its contract: before March the formula holds, and from March on February is taken at its length.

use Prim.Native.Nat.{ℕ, ◌-◌, ◌<◌, ◌≤◌}
use mathlib.Core.Bool.{Bool, true, false, cond}
use mathlib.Core.Path.{◌≡◌, sym, ap, ◌∙◌}
use borrow.Author.Tests.{le-ltb}
use lib.ListN.{take}
use Rattle.paper.specs.Units.{Year}
use Rattle.paper.specs.Lists.{sum}
use Rattle.paper.specs.Days.{leap, month_days}
use Rattle.days.proofs.Months.{even, before_month}
use Rattle.days.proofs.days_before.Goals as goal

-- From March on, in a year that is leap or not
since-march : (leap? : Bool) (y : Year) (month : ℕ) → month < 12 → 2 ≤ month → leap y ≡ leap?
    → cond leap? (even month - 1) (even month - 2) ≡ sum (take month (month_days (leap y)))
since-march leap? y month h m e =
    ap (λ (b : Bool). cond b (even month) (cond leap? (even month - 1) (even month - 2))) (sym (le-ltb month 2 m))
    ∙ before_month leap? month h
    ∙ ap (λ (b : Bool). sum (take month (month_days b))) (sym e)

pub returns-then-is_leap : goal.returns-then-is_leap
returns-then-is_leap c =
    ap (λ (n : ℕ). n - 1) c.even_before-even.ensures
    ∙ since-march true c.args.y c.args.month c.requires c.if-month-lt2.false (sym c.is_leap.ensures ∙ c.if-is_leap.true)

pub returns-else-is_leap : goal.returns-else-is_leap
returns-else-is_leap c =
    ap (λ (n : ℕ). n - 2) c.even_before-even.ensures
    ∙ since-march false c.args.y c.args.month c.requires c.if-month-lt2.false (sym c.is_leap.ensures ∙ c.if-is_leap.false)
