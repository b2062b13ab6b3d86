-- What depends on the closing days, and so looks into `is_open`: of five days on end one is open. Another calendar proves that again.
use Prim.Native.Nat.{ℕ, zero, suc, ◌+◌, ◌-◌, ◌≤◌, ◌<◌}
use native.Mathlib.Nat.{le_refl, le_trans, eq-or-lt_of_le, not-suc-le-zero, mod-lt}
use native.Mathlib.Numerals.{add-one}
use native.Mathlib.Omega.{arith}
use mathlib.Core.Bool.{Bool, true, false, cond, ◌&&◌, ◌||◌}
use mathlib.Core.List.{List, [], ◌∷◌}
use mathlib.Core.Logic.{◌≢◌, ⊎_elim}
use mathlib.Core.Path.{◌≡◌, refl, sym, ap, subst, subst⁻¹, ◌∙◌}
use borrow.Author.Tests.{le-leb, lt-leb, lt-ltb, ltb-true, ltb-false, eqb-true, eqb-false, ne_eqb, not-false}
use lib.Dec.{eqb, leb, ltb}
use lib.ListN.{length, get_or, take}
use Rattle.paper.specs.Units.{Year, Month, DayOfMonth, Day, Days}
use Rattle.paper.specs.Lists.{sum, only, first_that, given, Each, nil, cons}
use Rattle.paper.specs.Days.{leap, year_days, new_years_from, new_years, month_days, day_on, weekday, year_of, in_cycle, in_round, spring_moon, sunday_after, easter, closing_days, is_closing, is_open, first_open, days_tested, working_after}
use Rattle.paper.specs.Calendar.{Calendar, Working}
use Rattle.paper.proofs.Lists.{never, only_kept, only_left, length_only}
use Rattle.paper.proofs.Days.{new_years_step, day_in_below, Found, found, working_after_lem, working_within, working_earliest}

-- ---- the year of a day

-- New years from a given one on are not before it
from_first : (years : ℕ) (y : Year) (n : Day) (i : ℕ) → i < years → n ≤ get_or (new_years_from years y n) i 0
from_first zero y n i h = absurd (not-suc-le-zero h)
from_first (suc years) y n zero h = le_refl n
from_first (suc years) y n (suc i) h = omega (arith, from_first years (suc y) (n + year_days y) i (omega arith))

-- How many of them are not after a day
abbrev counted : Day → List Day → ℕ
counted d ns = length (only (λ new_year. leb new_year d) ns)

-- None, where the first is after it
none_counted : (years : ℕ) (y : Year) (n d : Day) → d < n → counted d (new_years_from years y n) ≡ 0
none_counted zero y n d h = refl
none_counted (suc years) y n d h =
    rw (only_left (λ x. leb x d) n (new_years_from years (suc y) (n + year_days y)) (lt-leb n d h))
    (none_counted years (suc y) (n + year_days y) d (omega arith))

-- Those up to one that is not after it, where the next is
counted_to : (years : ℕ) (y : Year) (n d : Day) (i : ℕ) → i < years → get_or (new_years_from years y n) i 0 ≤ d
    → (suc i < years → d < get_or (new_years_from years y n) (suc i) 0) → counted d (new_years_from years y n) ≡ suc i
counted_to zero y n d i h low high = absurd (not-suc-le-zero h)
counted_to (suc zero) y n d zero h low high = rw (only_kept (λ x. leb x d) n [] (le-leb n d low)) refl
counted_to (suc (suc years)) y n d zero h low high =
    rw (only_kept (λ x. leb x d) n (new_years_from (suc years) (suc y) (n + year_days y)) (le-leb n d low))
    (ap suc (none_counted (suc years) (suc y) (n + year_days y) d (high (omega arith))))
counted_to (suc years) y n d (suc i) h low high =
    rw (only_kept (λ x. leb x d) n (new_years_from years (suc y) (n + year_days y)) (le-leb n d (le_trans (from_first (suc years) y n (suc i) h) low)))
    (ap suc (counted_to years (suc y) (n + year_days y) d i (omega arith) low (λ l. high (omega arith))))

-- The first is counted, if it is day 0
first_counted : (years : ℕ) (y : Year) (d : Day) → 1 ≤ counted d (new_years_from (suc years) y 0)
first_counted years y d =
    rw (only_kept (λ x. leb x d) 0 (new_years_from years (suc y) (0 + year_days y)) (le-leb 0 d (omega arith))) (omega arith)

-- A day from a 1 January on and before the next is in that year; the table's last year has no next
pub year_at : (d : Day) (i : ℕ) → i < 400 → get_or new_years i 0 ≤ d → (i + 1 < 400 → d < get_or new_years (i + 1) 0) → year_of d ≡ 2000 + i
year_at d i h low high = go (counted d new_years) (counted_to 400 2000 0 d i h low (λ l. rw add-one at (high (omega arith))))
  where
    go : (k : ℕ) → k ≡ suc i → 1999 + k ≡ 2000 + i
    go k e = omega arith

-- The year of any day is one of the table's
pub year_between : (d : Day) → (2000 ≤ year_of d) × (year_of d ≤ 2399)
year_between d = go (counted d new_years) (first_counted 399 2000 d) (length_only (λ x. leb x d) new_years)
  where
    go : (k : ℕ) → 1 ≤ k → k ≤ 400 → (2000 ≤ 1999 + k) × (1999 + k ≤ 2399)
    go k p q = omega arith

-- A day from a year's 1 January on and before that year's days are over is in that year
year_within : (y : Year) → (2000 ≤ y) × (y ≤ 2399) → (d : Day) → get_or new_years (y - 2000) 0 ≤ d
    → d < get_or new_years (y - 2000) 0 + year_days y → year_of d ≡ y
year_within y between d low high =
    let k : 2000 + (y - 2000) ≡ y = omega arith in
    let n = get_or new_years (y - 2000) 0 in
    year_at d (y - 2000) (omega arith) low
    (λ l. subst (λ (next : Day). d < next)
    (sym (new_years_step (y - 2000) l ∙ ap (λ (x : Year). n + year_days x) k))
    high)
    ∙ k

-- ---- Easter

-- The first full moon of spring is at most 28 days after its beginning
pub moon_within : (y : Year) → spring_moon y ≤ 28
moon_within y = go (in_round y) (in_cycle y) (mod-lt _ (omega arith))
  where
    go : (round cycle : ℕ) → round < 30 → cond (eqb round 29 || eqb round 28 && ltb 10 cycle) (round - 1) round ≤ 28
    go round cycle h = last (eqb round 29) refl (eqb round 28 && ltb 10 cycle)
      where
        last : (b : Bool) → eqb round 29 ≡ b → (c : Bool) → cond (b || c) (round - 1) round ≤ 28
        last true e c = omega arith
        last false e true = omega arith
        last false e false = omega (arith, eqb-false round 29 e)

-- The first Sunday after a day is at most a week after it
pub sunday_within : (d : Day) → (d < sunday_after d) × (sunday_after d ≤ d + 7)
sunday_within d = omega arith

-- The moon's day and Easter are days of the 400 years or few days past them, by what bounds their parts
pub moon_below : (y : Year) → (2000 ≤ y) × (y ≤ 2399) → day_on y 3 21 + spring_moon y < 146_125
moon_below y b =
    go (day_on y 3 21) (spring_moon y) (day_in_below y 2 20 (record { low = b.0; high = b.1; in_month = omega arith })) (moon_within y)
  where
    go : (march : Day) (moon : Days) → march < 146_097 → moon ≤ 28 → march + moon < 146_125
    go march moon h k = omega arith

pub easter_below : (y : Year) → (2000 ≤ y) × (y ≤ 2399) → easter y < 146_132
easter_below y b = go (day_on y 3 21 + spring_moon y) (moon_below y b)
  where
    go : (moon : Day) → moon < 146_125 → sunday_after moon < 146_132
    go moon h = omega (arith, sunday_within moon)

-- ---- the closing days of a year: day `n` is its 1 January and day `e` its Easter

-- A day of that year
abbrev on : Day → Bool → Month → DayOfMonth → Day
on n is_leap month d = n + sum (take month (month_days is_leap)) + d

abbrev closings : Day → Bool → Day → List Day
closings n is_leap e = on n is_leap 0 0 ∷ (e - 2) ∷ (e + 1) ∷ on n is_leap 4 0 ∷ on n is_leap 11 24 ∷ on n is_leap 11 25 ∷ []

-- What is so in each year: Easter is from 22 March to 25 April
record Frame (n : Day) (is_leap : Bool) (e : Day) : Type 0 where
  february : (28 ≤ get_or (month_days is_leap) 1 0) × (get_or (month_days is_leap) 1 0 ≤ 29)
  easter : (on n is_leap 2 21 ≤ e) × (e ≤ on n is_leap 3 24)

frame : (y : Year) → Frame (get_or new_years (y - 2000) 0) (leap y) (easter y)
frame y = go (get_or new_years (y - 2000) 0) (leap y) (spring_moon y) (moon_within y)
  where
    go : (n : Day) (is_leap : Bool) (moon : Days) → moon ≤ 28 → Frame n is_leap (sunday_after (on n is_leap 2 20 + moon))
    go n true moon h = record { february = omega arith; easter = omega (arith, sunday_within (on n true 2 20 + moon)) }
    go n false moon h = record { february = omega arith; easter = omega (arith, sunday_within (on n false 2 20 + moon)) }

-- Whether a day is one of some
abbrev pub one_of : List Day → Day → Bool
one_of days d = given (first_that (eqb d) days)

-- A day other than the first of them is one of them where it is one of the rest
pub one_past : (d c : Day) (days : List Day) → d ≢ c → one_of (c ∷ days) d ≡ one_of days d
one_past d c days h = rw (ne_eqb d c h, first_that) refl

-- One of them is the first, or one of the rest
one_of_lem : {X : Type 0} (d : Day) (days : List Day) → one_of days d ≡ true → Each (λ closing. d ≡ closing → X) days → X
one_of_lem d [] h nil = never h
one_of_lem {X} d (c ∷ days) h (cons x xs) = go (eqb d c) refl (λ k. one_of_lem d days k xs)
  where
    go : (b : Bool) → eqb d c ≡ b → (one_of days d ≡ true → X) → X
    go true e rest = x (eqb-true d c e)
    go false e rest = rest (sym (one_past d c days (eqb-false d c e)) ∙ h)

-- A day other than each of them is none
unlike : (d : Day) (days : List Day) → Each (λ closing. d ≢ closing) days → one_of days d ≡ false
unlike d [] nil = refl
unlike d (c ∷ days) (cons x xs) = one_past d c days x ∙ unlike d days xs

-- Six facts, each of a day
six : {P : Day → Type 0} {a b c d e f : Day} → P a × P b × P c × P d × P e × P f → Each P (a ∷ b ∷ c ∷ d ∷ e ∷ f ∷ [])
six p = cons p.0 (cons p.1 (cons p.2 (cons p.3 (cons p.4 (cons p.5 nil)))))

-- A closing day of its year
abbrev Closing : Day → Type 0
Closing d = is_closing (year_of d) d ≡ true

-- A day of that year that is another than each of them is no closing day
abbrev Unlike : Day → Bool → Day → Day → Type 0
Unlike n is_leap e d =
    (d ≢ on n is_leap 0 0) × (d ≢ e - 2) × (d ≢ e + 1) × (d ≢ on n is_leap 4 0) × (d ≢ on n is_leap 11 24) × (d ≢ on n is_leap 11 25)

not_closing : (y : Year) → (2000 ≤ y) × (y ≤ 2399) → (d : Day)
    → let n = get_or new_years (y - 2000) 0 in n ≤ d → d < on n (leap y) 11 31 → Unlike n (leap y) (easter y) d → Closing d → ⊥
not_closing y between d low high u c =
    go (year_of d) (year_within y between d low (before (get_or new_years (y - 2000) 0) (leap y) high)) c
  where
    before : (n : Day) (is_leap : Bool) → d < on n is_leap 11 31 → d < n + cond is_leap 366 365
    before n true h = omega arith
    before n false h = omega arith

    go : (year : Year) → year ≡ y → is_closing year d ≡ true → ⊥
    go year e k = never (sym (unlike d (closing_days y) (six u)) ∙ subst (λ (x : Year). is_closing x d ≡ true) e k)

-- No closing day has others both in the four days before it and in the four after it: Good Friday and Easter Monday have each other,
-- 25 and 26 December too, and the rest have none
crowded : (p z q : Day) → p < z → z ≤ p + 4 → z < q → q ≤ z + 4 → Closing p → Closing z → Closing q → ⊥
crowded p z q h i j k cp cz cq =
    let y = year_of z in
    go (get_or new_years (y - 2000) 0) (leap y) (easter y) (frame y) (not_closing y (year_between z)) cz
  where
    go : (n : Day) (is_leap : Bool) (e : Day) → Frame n is_leap e
        → ((d : Day) → n ≤ d → d < on n is_leap 11 31 → Unlike n is_leap e d → Closing d → ⊥) → one_of (closings n is_leap e) z ≡ true → ⊥
    go n is_leap e r shut c =
        one_of_lem z (closings n is_leap e) c
        (six (
          (λ s. shut q (omega arith) (omega arith) (omega arith) cq),
          (λ s. shut p (omega arith) (omega arith) (omega arith) cp),
          (λ s. shut q (omega arith) (omega arith) (omega arith) cq),
          (λ s. shut q (omega arith) (omega arith) (omega arith) cq),
          (λ s. shut p (omega arith) (omega arith) (omega arith) cp),
          (λ s. shut q (omega arith) (omega arith) (omega arith) cq),
        ))

-- ---- the search

-- A weekday that is not open is a closing day
closing : (d : Day) → is_open d ≡ false → weekday d < 5 → Closing d
unfolding is_open
closing d h l = not-false _ (rw (lt-ltb (weekday d) 5 l) at h)

-- So three of them, as far apart as above, are not all shut
three_shut : (p z q : Day) → is_open p ≡ false → is_open z ≡ false → is_open q ≡ false
    → (p < z) × (z ≤ p + 4) × (z < q) × (q ≤ z + 4) × (weekday p < 5) × (weekday z < 5) × (weekday q < 5) → ⊥
three_shut p z q a b c h =
    crowded p z q h.0 h.1 h.2 h.3 (closing p a h.4) (closing z b h.5) (closing q c h.6)

-- Of five days on end one is open, since three of them are weekdays
one_of_five : (d : Day) → is_open d ≡ false → is_open (d + 1) ≡ false → is_open (d + 2) ≡ false → is_open (d + 3) ≡ false
    → is_open (d + 4) ≡ true
one_of_five d a b c e = last (is_open (d + 4)) refl
  where
    by_weekday : is_open (d + 4) ≡ false → (early thursday friday : Bool) → ltb (weekday d) 3 ≡ early → eqb (weekday d) 3 ≡ thursday
        → eqb (weekday d) 4 ≡ friday → ⊥
    by_weekday g true t f h i j = three_shut d (d + 1) (d + 2) a b c (omega (arith, ltb-true (weekday d) 3 h))
    by_weekday g false true f h i j = three_shut d (d + 1) (d + 4) a b g (omega (arith, eqb-true (weekday d) 3 i))
    by_weekday g false false true h i j = three_shut d (d + 3) (d + 4) a e g (omega (arith, eqb-true (weekday d) 4 j))
    by_weekday g false false false h i j =
        three_shut (d + 2) (d + 3) (d + 4) c e g
        (omega (arith, ltb-false (weekday d) 3 h, eqb-false (weekday d) 3 i, eqb-false (weekday d) 4 j))

    last : (open? : Bool) → is_open (d + 4) ≡ open? → is_open (d + 4) ≡ true
    last true g = g
    last false g = absurd (by_weekday g (ltb (weekday d) 3) (eqb (weekday d) 3) (eqb (weekday d) 4) refl refl refl)

-- The working day after a day is open: a search that goes to its last step has passed four days that are shut
working_open : (d : Day) → is_open (working_after d) ≡ true
unfolding working_after
working_open d = go (first_open days_tested (suc d)) (found days_tested (suc d))
  where
    go : (f : Day) → Found days_tested (suc d) f → is_open f ≡ true
    go f r = ⊎_elim last (λ l. r.opens l) (eq-or-lt_of_le r.within)
      where
        last : f ≡ suc d + 4 → is_open f ≡ true
        last e =
            subst⁻¹ (λ (x : Day). is_open x ≡ true) e
            (one_of_five (suc d)
            (r.earliest (suc d) (omega arith) (omega arith))
            (r.earliest (suc d + 1) (omega arith) (omega arith))
            (r.earliest (suc d + 2) (omega arith) (omega arith))
            (r.earliest (suc d + 3) (omega arith) (omega arith)))

-- The promise
pub working : (d : Day) → Working d (working_after d)
working d = record { opens = working_open d; after = working_after_lem d; within = working_within d; earliest = working_earliest d }

-- The claim
pub calendar : Calendar
unfolding is_open working_after
calendar = (refl, refl, refl, refl, refl, refl)
