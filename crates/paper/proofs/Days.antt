-- Laws of the definitions of days. What a day being open means is not looked into here: `Calendar` has what depends on it, and callers
-- go by `first_open`'s steps and by what is said of `working_after`.
use Prim.Native.Nat.{ℕ, zero, suc, ◌+◌, ◌-◌, ◌/◌, ◌%◌, ◌≤◌, ◌<◌}
use native.Mathlib.Nat.{le_refl, le_of_lt, eq-or-lt_of_le, not-suc-le-zero, add-zero, add-suc, suc-add}
use native.Mathlib.Numerals.{add-one}
use native.Mathlib.Omega.{arith}
use mathlib.Core.Bool.{Bool, true, false, cond, ◌&&◌}
use mathlib.Core.Option
use mathlib.Core.Option.{Option, none, some}
use mathlib.Core.Path.{◌≡◌, refl}
use mathlib.Core.Logic.{⊎_elim}
use borrow.Author.Tests.{ltb-true, ltb-false, leb-true}
use lib.Dec.{ltb, leb}
use lib.ListN.{get_or, take, get_or-eq_default}
use Rattle.paper.specs.Units.{Date, Year, Day, Days}
use Rattle.paper.specs.Lists.{sum, between}
use Rattle.paper.proofs.Lists.{both, when_some, every_at, sum_part}
use Rattle.paper.specs.Days.{leap, year_days, new_years_from, new_years, month_days, is_real, day_in, day_of, day, weekday, is_open, first_open, days_tested, working_after}

-- The search's steps: it ends at an open day, and passes one that is not
pub first_open_lem : (left : Days) (d : Day) → is_open d ≡ true → first_open left d ≡ d
first_open_lem zero d h = refl
first_open_lem (suc left) d h = rw (h, first_open)

pub first_shut : (left : Days) (d : Day) → is_open d ≡ false → first_open (suc left) d ≡ first_open left (suc d)
first_shut left d h = rw (h, first_open)

-- What a search of so many steps from a day finds: no day before that day, none past the last step, an open one unless the last
-- step is reached, and the first such
pub record Found (left : Days) (d f : Day) : Type 0 where
  pub from : d ≤ f
  pub within : f ≤ d + left
  pub opens : f < d + left → is_open f ≡ true
  pub earliest : (x : Day) → d ≤ x → x < f → is_open x ≡ false

pub found : (left : Days) (d : Day) → Found left d (first_open left d)
found zero d = record { from = le_refl d; within = omega arith; opens = λ l. absurd (omega arith); earliest = λ x p q. absurd (omega arith) }
found (suc left) d = go (is_open d) refl (found left (suc d))
  where
    go : (open? : Bool) → is_open d ≡ open? → Found left (suc d) (first_open left (suc d))
        → Found (suc left) d (first_open (suc left) d)
    go true e r =
        rw (first_open_lem (suc left) d e)
        (record { from = le_refl d; within = omega arith; opens = λ l. e; earliest = λ x p q. absurd (omega arith) })
    go false e r =
        rw (first_shut left d e)
        (record {
          from = omega arith;
          within = omega arith;
          opens = λ l. r.opens (omega arith);
          earliest = λ x p q. ⊎_elim (λ s. rw (← s) e) (λ l. r.earliest x l q) (eq-or-lt_of_le p);
        })

-- The working day after a day is after it
pub working_after_lem : (d : Day) → d < working_after d
unfolding working_after
working_after_lem d = (found days_tested (suc d)).from

-- It is at most five days off
pub working_within : (d : Day) → working_after d ≤ d + 5
unfolding working_after
working_within d = omega (arith, (found days_tested (suc d)).within)

-- No day between the two is open
pub working_earliest : (d x : Day) → d < x → x < working_after d → is_open x ≡ false
unfolding working_after
working_earliest d x p q = (found days_tested (suc d)).earliest x p q

-- 1 January 2000 was a Saturday
pub saturday : weekday 0 ≡ 5
saturday = refl

-- Each 1 January is the one before it and that year's days
steps : (years : ℕ) (y : Year) (d : Day) (i : ℕ) → suc i < years
    → get_or (new_years_from years y d) (suc i) 0 ≡ get_or (new_years_from years y d) i 0 + year_days (y + i)
steps zero y d i h = absurd (not-suc-le-zero h)
steps (suc zero) y d i h = absurd (omega arith)
steps (suc (suc years)) y d zero h = rw add-zero
steps (suc (suc years)) y d (suc i) h = rw (add-suc, ← suc-add) (steps (suc years) (suc y) (d + year_days y) i (omega arith))

pub new_years_step : (i : ℕ) → i + 1 < 400 → get_or new_years (i + 1) 0 ≡ get_or new_years i 0 + year_days (2000 + i)
new_years_step i h = rw add-one (steps 400 2000 0 i (omega arith))

-- The months of a year are its days
months_year : (is_leap : Bool) → sum (month_days is_leap) ≡ cond is_leap 366 365
months_year true = refl
months_year false = refl

-- The table's days are below those of the 400 years, by one test of all its entries
new_year_below : (i : ℕ) → i < 400 → get_or new_years i 0 < 146_097
new_year_below i h = ltb-true (get_or new_years i 0) 146_097 (every_at (λ x. ltb x 146_097) new_years 0 refl i h)

-- No year of the table ends past them
year_within : (i : ℕ) → i < 400 → get_or new_years i 0 + year_days (2000 + i) ≤ 146_097
year_within i h =
    ⊎_elim (λ e. let k : i ≡ 399 = omega arith in rw k (le_refl 146_097))
    (λ l. rw (← new_years_step i (omega arith)) (le_of_lt (new_year_below (i + 1) (omega arith))))
    (eq-or-lt_of_le h)

-- A year, a month and a day of the month that are real
pub record Real (y : Year) (month day : ℕ) : Type 0 where
  pub low : 2000 ≤ y
  pub high : y ≤ 2399
  pub in_month : day < get_or (month_days (leap y)) month 0

pub real : (y : Year) (month day : ℕ) → is_real y month day ≡ true → Real y month day
real y month day e =
    let r = both (between 2000 2399 y) (ltb day (get_or (month_days (leap y)) month 0)) e in
    let b = both (leb 2000 y) (leb y 2399) r.0 in
    record {
      low = leb-true 2000 y b.0;
      high = leb-true y 2399 b.1;
      in_month = ltb-true day (get_or (month_days (leap y)) month 0) r.1;
    }

-- Its month is one of twelve
pub month_below : (y : Year) (month day : ℕ) → Real y month day → month < 12
month_below y month day r = go (ltb month 12) refl
  where
    go : (b : Bool) → ltb month 12 ≡ b → month < 12
    go true e = ltb-true month 12 e
    go false e =
        let past : get_or (month_days (leap y)) month 0 ≡ 0 = get_or-eq_default (month_days (leap y)) 0 (ltb-false month 12 e) in
        absurd (not-suc-le-zero (rw past at r.in_month))

-- Its day is one of the 400 years'
pub day_in_below : (y : Year) (month day : ℕ) → Real y month day → day_in y month day < 146_097
day_in_below y month day r =
    go (get_or new_years (y - 2000) 0) (sum (take month (month_days (leap y)))) (get_or (month_days (leap y)) month 0) (year_days y) r.in_month
    (rw (months_year (leap y)) at (sum_part (month_days (leap y)) month))
    (let k : 2000 + (y - 2000) ≡ y = omega arith in rw k at (year_within (y - 2000) (omega arith)))
  where
    go : (new before length days : ℕ) → day < length → before + length ≤ days → new + days ≤ 146_097
        → new + before + day < 146_097
    go new before length days p q r = omega arith

-- So is each date's
pub day_below : (date : Date) (d : Day) → day_of date ≡ some d → d < 146_097
day_below date d e =
    let y = date / 10_000 in
    let month = date / 100 % 100 in
    let day = date % 100 in
    let w = when_some (leb 1 month && leb 1 day && is_real y (month - 1) (day - 1)) (day_in y (month - 1) (day - 1)) d e in
    let r = both (leb 1 month && leb 1 day) (is_real y (month - 1) (day - 1)) w.0 in
    rw w.1 at (day_in_below y (month - 1) (day - 1) (real y (month - 1) (day - 1) r.1))

-- Also where no day counts as the first
pub day_low : (date : Date) → day date < 146_097
day_low date = go (day_of date) refl
  where
    go : (o : Option Day) → day_of date ≡ o → Option.get_or o 0 < 146_097
    go none e = omega arith
    go (some d) e = day_below date d e
