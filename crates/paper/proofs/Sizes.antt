-- Sizes of signed numbers, over any bound and of any unit: of a negative, a sum, a product, a part, a rounding.
-- The size of a number is what it is without its sign.
use Prim.Native.Nat.{ℕ, zero, suc, ◌+◌, ◌-◌, ◌*◌, ◌≤◌, ◌<◌}
use native.Mathlib.Nat.{le_refl, suc-mul}
use native.Mathlib.Omega.{arith}
use mathlib.Core.Bool.{Bool, true, false, cond, not}
use mathlib.Core.List.{List, [], ◌∷◌}
use mathlib.Core.Path.{◌≡◌, refl}
use lib.Dec.{T, ltb, ltb→lt, nltb→le}
use lib.IntN.{ℤ, pos, negsuc, neg_ℤ, nat_abs, sub_ℕ, ◌+ℤ◌, ◌-ℤ◌, ◌*ℤ◌}
use lib.ListN.{length}
use Rattle.paper.specs.Rounding.{nearest, rounded}
use Rattle.paper.specs.Signs.{above_zero, below_zero, signed_sum}
use Rattle.paper.specs.Lists.{Each, nil, cons}
use Rattle.paper.proofs.Rounding.{nearest_at_most, nearest_below, rounded_pos, rounded_negsuc}

-- A negative has its number's size
pub size_neg : (z : ℤ) → nat_abs (neg_ℤ z) ≡ nat_abs z
size_neg (pos zero) = refl
size_neg (pos (suc n)) = refl
size_neg (negsuc n) = refl

size_sub : (a b : ℕ) → nat_abs (sub_ℕ a b) ≤ a + b
size_sub a b = by_test (ltb a b) (λ t. ltb→lt a b t) (λ t. nltb→le a b t)
  where
    by_test : (t : Bool) → (T t → a < b) → (T (not t) → b ≤ a)
        → nat_abs (cond t (negsuc (b - suc a)) (pos (a - b))) ≤ a + b
    by_test true lt ge = omega (arith, lt tt)
    by_test false lt ge = omega (arith, ge tt)

-- A sum is no larger than the two sizes together
pub size_sum : (a b : ℤ) → nat_abs (a +ℤ b) ≤ nat_abs a + nat_abs b
size_sum (pos a) (pos b) = le_refl (a + b)
size_sum (pos a) (negsuc b) = size_sub a (suc b)
size_sum (negsuc a) (pos b) = omega (arith, size_sub b (suc a))
size_sum (negsuc a) (negsuc b) = omega arith

-- Nor is a difference
pub size_difference : (a b : ℤ) → nat_abs (a -ℤ b) ≤ nat_abs a + nat_abs b
size_difference a b = rw (size_neg b) at (size_sum a (neg_ℤ b))

-- A product's size is the product of the sizes
pub size_product : (a b : ℤ) → nat_abs (a *ℤ b) ≡ nat_abs a * nat_abs b
size_product (pos a) (pos b) = refl
size_product (pos a) (negsuc b) = size_neg (pos (a * suc b))
size_product (negsuc a) (pos b) = size_neg (pos (suc a * b))
size_product (negsuc a) (negsuc b) = refl

-- A sum of numbers that are each no larger than a bound is no larger than the bound times how many they are
pub size_signed_sum : (most : ℕ) (zs : List ℤ) → Each (λ z. nat_abs z ≤ most) zs
    → nat_abs (signed_sum zs) ≤ length zs * most
size_signed_sum most [] nil = omega arith
size_signed_sum most (z ∷ zs) (cons small rest) =
    omega (arith, size_sum z (signed_sum zs), size_signed_sum most zs rest, suc-mul (length zs) most)

-- The part below zero is the part above zero of the negative
pub above_negative : (z : ℤ) → above_zero (neg_ℤ z) ≡ below_zero z
above_negative (pos zero) = refl
above_negative (pos (suc n)) = refl
above_negative (negsuc n) = refl

-- The part above zero is no larger than the number
pub above_within : (z : ℤ) → above_zero z ≤ nat_abs z
above_within (pos n) = le_refl n
above_within (negsuc n) = omega arith

-- Nor is the part below zero
pub below_within : (z : ℤ) → below_zero z ≤ nat_abs z
below_within (pos n) = omega arith
below_within (negsuc n) = le_refl (suc n)

-- The size is what is rounded
pub size_rounded : (z : ℤ) (d : ℕ) → nat_abs (rounded z d) ≡ nearest (nat_abs z) d
size_rounded (pos n) d = rw (rounded_pos n d)
size_rounded (negsuc n) d = rw (rounded_negsuc n d) (size_neg (pos (nearest (suc n) d)))

-- Rounding makes no number larger
pub rounded_within : (z : ℤ) (d : ℕ) → 0 < d → nat_abs (rounded z d) ≤ nat_abs z
rounded_within z d h = rw (size_rounded z d) (nearest_below (nat_abs z) d h)

-- What is divided is at most so many divisors in size, and so its rounded quotient
pub rounded_at_most : (z : ℤ) (most divisor : ℕ) → 0 < divisor → nat_abs z ≤ most * divisor
    → nat_abs (rounded z divisor) ≤ most
rounded_at_most z m d h k = rw (size_rounded z d) (nearest_at_most (nat_abs z) m d h k)
