-- The years of the table: a guess at a day's year, and days that each year has.
use Prim.Native.Nat.{ℕ, zero, suc, ◌+◌, ◌-◌, ◌*◌, ◌/◌, ◌≤◌, ◌<◌}
use native.Mathlib.Nat.{le_trans, not-suc-le-zero}
use native.Mathlib.Omega.{arith}
use mathlib.Core.Bool.{Bool, true, false, ◌&&◌}
use mathlib.Core.List.{List, [], ◌∷◌}
use mathlib.Core.Path.{◌≡◌, refl, sym, ◌∙◌}
use borrow.Author.Tests.{leb-true, ltb-true, ltb-false}
use lib.Dec.{leb, ltb}
use lib.ListN.{length, get_or}
use Rattle.paper.specs.Units.{Year, Day}
use Rattle.paper.specs.Days.{new_years, year_of}
use Rattle.paper.proofs.Lists.{both}
use Rattle.paper.proofs.Calendar.{year_at}

-- Whether each 1 January, from a given year on, is at most 366 days a year after the first, and no more than one such year less
abbrev near : ℕ → List Day → Bool
near years [] = true
near years (n ∷ ns) = leb n (366 * years) && (leb (366 * years) (n + 366) && near (suc years) ns)

near_cons : (years : ℕ) (n : Day) (ns : List Day) → near years (n ∷ ns) ≡ true
    → (n ≤ 366 * years) × (366 * years ≤ n + 366) × (near (suc years) ns ≡ true)
near_cons years n ns e =
    let a = both (leb n (366 * years)) (leb (366 * years) (n + 366) && near (suc years) ns) e in
    let b = both (leb (366 * years) (n + 366)) (near (suc years) ns) a.1 in
    (leb-true n (366 * years) a.0, leb-true (366 * years) (n + 366) b.0, b.1)

near_at : (years : ℕ) (ns : List Day) → near years ns ≡ true → (i : ℕ) → i < length ns
    → (get_or ns i 0 ≤ 366 * (years + i)) × (366 * (years + i) ≤ get_or ns i 0 + 366)
near_at years [] e i h = absurd (not-suc-le-zero h)
near_at years (n ∷ ns) e zero h = let r = near_cons years n ns e in omega (arith, r.0, r.1)
near_at years (n ∷ ns) e (suc i) h = omega (arith, near_at (suc years) ns (near_cons years n ns e).2 i (omega arith))

-- Computed once over the table: so the 1 January of a guess is not after the day, and that of two years later is
not_after : (d : Day) (i : ℕ) → i < 400 → 366 * i ≤ d → get_or new_years i 0 ≤ d
not_after d i h l = le_trans (near_at 0 new_years refl i h).0 (omega arith)

after : (d : Day) (i : ℕ) → i < 400 → d + 366 < 366 * i → d < get_or new_years i 0
after d i h l = go (get_or new_years i 0) (near_at 0 new_years refl i h).1
  where
    go : (n : Day) → 366 * (0 + i) ≤ n + 366 → d < n
    go n k = omega arith

-- What the code has as its guess, and the place of the 1 January behind it
abbrev pub guess : Day → Year
guess d = 2000 + d / 366

-- The guess is the year, where the next 1 January is after the day
pub year_guessed : (d next : Day) → d / 366 < 399 → next ≡ get_or new_years (guess d + 1 - 2000) 0 → ltb d next ≡ true → guess d ≡ year_of d
year_guessed d next h e l =
    let place : guess d + 1 - 2000 ≡ d / 366 + 1 = omega arith in
    sym (year_at d (d / 366) (omega arith) (not_after d (d / 366) (omega arith) (omega arith)) (λ k. rw (← place, ← e) (ltb-true d next l)))

-- Where it is not, the year is the next
pub year_next : (d next : Day) → d / 366 < 399 → next ≡ get_or new_years (guess d + 1 - 2000) 0 → ltb d next ≡ false → guess d + 1 ≡ year_of d
year_next d next h e l =
    let place : guess d + 1 - 2000 ≡ d / 366 + 1 = omega arith in
    sym
    (year_at d (d / 366 + 1) (omega arith) (rw (← place, ← e) (ltb-false d next l)) (λ k. after d (d / 366 + 1 + 1) k (omega arith))
    ∙ omega arith)

-- The last guess is the last year
pub year_last : (d : Day) → guess d ≡ 2399 → guess d ≡ year_of d
year_last d h =
    let last : d / 366 ≡ 399 = omega arith in
    h ∙ sym (year_at d 399 (omega arith) (not_after d 399 (omega arith) (omega arith)) (λ k. absurd (omega arith)))
