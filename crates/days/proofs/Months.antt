-- The months of a year, by the formula of `even_before`: a test that is computed over the twelve, for a leap year and a common one.
use Prim.Native.Nat.{ℕ, zero, suc, ◌+◌, ◌-◌, ◌*◌, ◌/◌, ◌<◌}
use native.Mathlib.Nat.{le_of_suc-le-suc, not-suc-le-zero, eq-or-lt_of_le}
use mathlib.Core.Bool.{Bool, true, false, cond, ◌&&◌}
use mathlib.Core.Logic.{⊎_elim}
use mathlib.Core.Path.{◌≡◌, refl, sym, subst}
use borrow.Author.Tests.{eqb-true}
use lib.Dec.{eqb, ltb}
use lib.ListN.{get_or, take}
use Rattle.paper.specs.Units.{Days}
use Rattle.paper.specs.Lists.{sum}
use Rattle.paper.specs.Days.{month_days}
use Rattle.paper.proofs.Lists.{both}

-- What `even_before` answers, in days
abbrev pub even : ℕ → Days
even month = (367 * month + 5) / 12

-- Whether two functions agree below a number
abbrev agree : (ℕ → ℕ) → (ℕ → ℕ) → ℕ → Bool
agree f g zero = true
agree f g (suc n) = eqb (f n) (g n) && agree f g n

agrees : (f g : ℕ → ℕ) (n : ℕ) → agree f g n ≡ true → (i : ℕ) → i < n → f i ≡ g i
agrees f g zero t i h = absurd (not-suc-le-zero h)
agrees f g (suc n) t i h =
    let r = both (eqb (f n) (g n)) (agree f g n) t in
    ⊎_elim (λ e. subst (λ (k : ℕ). f k ≡ g k) (sym e) (eqb-true (f n) (g n) r.0)) (λ l. agrees f g n r.1 i l)
    (eq-or-lt_of_le (le_of_suc-le-suc h))

-- A month's days: what the formula rises by, but for February
pub month_length : (leap : Bool) (month : ℕ) → month < 12
    → cond (eqb month 1) (cond leap 29 28) (even (month + 1) - even month) ≡ get_or (month_days leap) month 0
month_length true =
    agrees (λ m. cond (eqb m 1) 29 (even (m + 1) - even m)) (λ m. get_or (month_days true) m 0) 12 refl
month_length false =
    agrees (λ m. cond (eqb m 1) 28 (even (m + 1) - even m)) (λ m. get_or (month_days false) m 0) 12 refl

-- The days before a month: from March on the formula's February was one or two days too long
pub before_month : (leap : Bool) (month : ℕ) → month < 12
    → cond (ltb month 2) (even month) (cond leap (even month - 1) (even month - 2)) ≡ sum (take month (month_days leap))
before_month true =
    agrees (λ m. cond (ltb m 2) (even m) (even m - 1)) (λ m. sum (take m (month_days true))) 12 refl
before_month false =
    agrees (λ m. cond (ltb m 2) (even m) (even m - 2)) (λ m. sum (take m (month_days false))) 12 refl
