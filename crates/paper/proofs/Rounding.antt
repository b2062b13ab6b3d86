-- Laws of rounding. Who rounds cites these, and not the text of `nearest` or `rounded`.
use Prim.Native.Nat.{ℕ, zero, suc, ◌+◌, ◌-◌, ◌*◌, ◌/◌, ◌%◌, ◌≤◌, ◌<◌, zero-le, suc-le-suc}
use native.Mathlib.Nat.{le_refl, le_antisymm, le_of_suc-le-suc, not-suc-le-zero, mul_comm, mul-le-mul_right, le-mul_of_pos_right, suc-mul, add-mul, lt_of_mul-lt-mul_right, mod-lt, div-add-mod', div-mul-le_self, lt-div-mul-add}
use native.Mathlib.Omega.{arith}
use mathlib.Core.Bool.{Bool, true, false}
use mathlib.Core.Path.{◌≡◌, refl, sym, ap, ◌∙◌}
use borrow.Author.Tests.{ltb-true, ltb-false, eqb-true, eqb-false, lt-ltb, le-ltb, eq-eqb, ne_eqb}
use lib.Dec.{le→leb, leb→le, eqb, ltb}
use lib.Signed.{◌≤ℤ◌, le_z_yes, ≤ℤ_refl}
use lib.IntN.{ℤ, pos, negsuc, neg_ℤ, neg_ℤ-neg_ℤ}
use Rattle.paper.specs.Units.{Factor, Whole}
use Rattle.paper.specs.Rounding.{Half, less_than_half, tie, more_than_half, by_half, nearest, rounded}
use Rattle.paper.specs.Offsetting.{share}

-- ---- the three cases, by the remainder and what is missing to the divisor

-- Less than half
pub nearest_less : (product divisor : ℕ) → product % divisor < divisor - product % divisor → nearest product divisor ≡ product / divisor
unfolding nearest
nearest_less p d h = rw (nearest, lt-ltb (p % d) (d - p % d) h)

-- The tie
pub nearest_tie : (product divisor : ℕ) → product % divisor ≡ divisor - product % divisor → nearest product divisor ≡ product / divisor + 1
unfolding nearest
nearest_tie p d h = rw (nearest, le-ltb (p % d) (d - p % d) (omega arith), eq-eqb (p % d) (d - p % d) h)

-- More than half
pub nearest_more : (product divisor : ℕ) → divisor - product % divisor < product % divisor → nearest product divisor ≡ product / divisor + 1
unfolding nearest
nearest_more p d h = rw (nearest, le-ltb (p % d) (d - p % d) (omega arith), ne_eqb (p % d) (d - p % d) (λ e. omega arith))

-- ---- what they come to: all else follows from this

-- A number times the divisor is at most half a divisor from the product, and is not the one below a tie
abbrev pub Near : ℕ → ℕ → ℕ → Type 0
Near product divisor n = (2 * (n * divisor) ≤ 2 * product + divisor) × (2 * product < 2 * (n * divisor) + divisor)

-- What is rounded is so near
pub nearest_near : (product divisor : ℕ) → 0 < divisor → Near product divisor (nearest product divisor)
nearest_near p d h = by_half_lem (ltb (p % d) (d - p % d)) refl
  where
    by_tie : (b : Bool) → eqb (p % d) (d - p % d) ≡ b → d - p % d ≤ p % d → Near p d (nearest p d)
    by_tie true e l =
        rw (nearest_tie p d (eqb-true (p % d) (d - p % d) e))
        (omega (arith, div-add-mod' p d, mod-lt p h, add-mul (p / d) 1 d, eqb-true (p % d) (d - p % d) e))
    by_tie false e l =
        rw (nearest_more p d (omega (arith, eqb-false (p % d) (d - p % d) e)))
        (omega (arith, div-add-mod' p d, mod-lt p h, add-mul (p / d) 1 d))

    by_half_lem : (b : Bool) → ltb (p % d) (d - p % d) ≡ b → Near p d (nearest p d)
    by_half_lem true e =
        rw (nearest_less p d (ltb-true (p % d) (d - p % d) e))
        (omega (arith, div-add-mod' p d, mod-lt p h, ltb-true (p % d) (d - p % d) e))
    by_half_lem false e = by_tie (eqb (p % d) (d - p % d)) refl (ltb-false (p % d) (d - p % d) e)

-- Of a number and one that is not below it, what the first is near is not above what the second is near
near_order : (p q divisor n m : ℕ) → p ≤ q → Near p divisor n → Near q divisor m → n ≤ m
near_order p q d n m le a b = le_of_suc-le-suc (lt_of_mul-lt-mul_right d (omega (arith, suc-mul m d)))

-- Rounding is monotone
pub nearest_monotone : (p q divisor : ℕ) → 0 < divisor → p ≤ q → nearest p divisor ≤ nearest q divisor
nearest_monotone p q d h le = near_order p q d (nearest p d) (nearest q d) le (nearest_near p d h) (nearest_near q d h)

-- What is divided is at most so many divisors, and so its rounded quotient at most so many
pub nearest_at_most : (product most divisor : ℕ) → 0 < divisor → product ≤ most * divisor → nearest product divisor ≤ most
nearest_at_most p m d h le = near_order p (m * d) d (nearest p d) m le (nearest_near p d h) (omega arith)

-- What is divided by one or more is not made larger
pub nearest_below : (product divisor : ℕ) → 0 < divisor → nearest product divisor ≤ product
nearest_below p d h = nearest_at_most p p d h (le-mul_of_pos_right p h)

-- The answer is the one that half the divisor, added before the division, gives
pub nearest_half_added : (product divisor : ℕ) → 0 < divisor → nearest product divisor ≡ (product + divisor / 2) / divisor
nearest_half_added p d h =
    let added : Near p d ((p + d / 2) / d) = omega (arith, div-mul-le_self (p + d / 2) d, lt-div-mul-add {a = p + d / 2} h) in
    le_antisymm (near_order p p d (nearest p d) ((p + d / 2) / d) (le_refl p) (nearest_near p d h) added)
    (near_order p p d ((p + d / 2) / d) (nearest p d) (le_refl p) added (nearest_near p d h))

-- Nothing is rounded to nothing
pub nearest_zero : (divisor : ℕ) → 0 < divisor → nearest 0 divisor ≡ 0
nearest_zero d h = omega (arith, nearest_below 0 d h)

-- A share by a factor of at most 10,000 ten-thousandths is not above what it is a share of
pub share_below : (factor : Factor) (amount : Whole) → factor ≤ 10_000 → share factor amount ≤ amount
share_below f a h = nearest_at_most (f * a) a 10_000 (omega arith) (rw (mul_comm a 10_000) (mul-le-mul_right a h))

-- ---- signed: the size is rounded, and the sign put back

-- A number that is not below zero is rounded by its part above zero
pub rounded_pos : (n divisor : ℕ) → rounded (pos n) divisor ≡ pos (nearest n divisor)
unfolding rounded
rounded_pos n d = refl

-- A number below zero is rounded by its part below zero, and its sign put back
pub rounded_negsuc : (n divisor : ℕ) → rounded (negsuc n) divisor ≡ neg_ℤ (pos (nearest (suc n) divisor))
unfolding nearest rounded
rounded_negsuc n d = go (suc n / d) (by_half (suc n % d) d)
  where
    go : (q : ℕ) (half : Half)
        → elim half [ less_than_half ↦ neg_ℤ (pos q) | tie ↦ neg_ℤ (pos (q + 1)) | more_than_half ↦ neg_ℤ (pos (q + 1)) ]
        ≡ neg_ℤ (pos (elim half [ less_than_half ↦ q | tie ↦ q + 1 | more_than_half ↦ q + 1 ]))
    go q less_than_half = refl
    go q tie = refl
    go q more_than_half = refl

-- The answer is the one that half the divisor, added to the size before the division, gives
pub rounded_half_added : (z : ℤ) (divisor : ℕ) → 0 < divisor
    → rounded z divisor ≡ elim z [ pos n ↦ pos ((n + divisor / 2) / divisor) | negsuc n ↦ neg_ℤ (pos ((suc n + divisor / 2) / divisor)) ]
rounded_half_added (pos n) d h = rounded_pos n d ∙ ap pos (nearest_half_added n d h)
rounded_half_added (negsuc n) d h = rounded_negsuc n d ∙ ap (λ (m : ℕ). neg_ℤ (pos m)) (nearest_half_added (suc n) d h)

-- Rounding a negative is the negative of rounding its size
pub rounded_negative : (z : ℤ) (divisor : ℕ) → 0 < divisor → rounded (neg_ℤ z) divisor ≡ neg_ℤ (rounded z divisor)
rounded_negative (pos zero) d h = rw (rounded_pos 0 d, nearest_zero d h)
rounded_negative (pos (suc n)) d h = rounded_negsuc n d ∙ ap neg_ℤ (sym (rounded_pos (suc n) d))
rounded_negative (negsuc n) d h =
    rounded_pos (suc n) d ∙ sym (ap neg_ℤ (rounded_negsuc n d) ∙ neg_ℤ-neg_ℤ (pos (nearest (suc n) d)))

-- Of two negatives the larger size is the smaller number
negative_order : (m n : ℕ) → n ≤ m → neg_ℤ (pos m) ≤ℤ neg_ℤ (pos n)
negative_order zero zero h = ≤ℤ_refl (pos 0)
negative_order zero (suc n) h = absurd (not-suc-le-zero h)
negative_order (suc m) zero h = le_z_yes tt
negative_order (suc m) (suc n) h = le_z_yes (le→leb n m (le_of_suc-le-suc h))

-- No negative is above a number that is not below zero
negative_below : (m n : ℕ) → neg_ℤ (pos m) ≤ℤ pos n
negative_below zero n = le_z_yes (le→leb 0 n (zero-le))
negative_below (suc m) n = le_z_yes tt

-- Rounding is monotone, signed
pub rounded_monotone : (a b : ℤ) (divisor : ℕ) → 0 < divisor → a ≤ℤ b → rounded a divisor ≤ℤ rounded b divisor
rounded_monotone (pos a) (pos b) d h le =
    rw (rounded_pos a d, rounded_pos b d)
    (le_z_yes (le→leb (nearest a d) (nearest b d) (nearest_monotone a b d h (leb→le a b le.le))))
rounded_monotone (pos a) (negsuc b) d h le = absurd le.le
rounded_monotone (negsuc a) (pos b) d h le = rw (rounded_negsuc a d, rounded_pos b d) (negative_below (nearest (suc a) d) (nearest b d))
rounded_monotone (negsuc a) (negsuc b) d h le =
    rw (rounded_negsuc a d, rounded_negsuc b d)
    (negative_order (nearest (suc a) d) (nearest (suc b) d)
    (nearest_monotone (suc b) (suc a) d h (suc-le-suc (leb→le b a le.le))))
