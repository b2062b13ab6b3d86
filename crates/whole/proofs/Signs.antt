-- Signed numbers in an i64: that one whose size is below 2 ^ 63 fits; what is read back; and what the sign's test shows.
-- The laws on sizes themselves stand with the paper, in its proofs/Sizes.
-- A signed local holds the bits of its number, and `to_z w64 (of_z w64 z)` is what is read back from them.
use Prim.Native.Nat.{ℕ, ◌≤◌, ◌<◌, ◌^◌}
use native.Mathlib.Nat.{le_refl, lt_of_le_of_lt}
use native.Mathlib.Omega.{arith}
use mathlib.Core.Path.{◌≡◌, refl, sym, ap, ap₂, ◌∙◌, subst, subst⁻¹}
use mathlib.Core.Bool.{Bool, true, false, true≢false, false≢true}
use lib.Dec.{T, leb-suc-zero}
use lib.IntN.{ℤ, pos, negsuc, neg_ℤ, nat_abs, ◌-ℤ◌, +ℤ_idl}
use lib.Signed.{mag, lt_z, non_neg}
use mir.Syntax.{w64}
use mir.Val.{Fits, SFits, to_z, of_z}
use mir.ValLaws.{to_z-of_z}
use Rattle.paper.proofs.Sizes.{size_neg}

-- ---- what fits

-- What has to fit is no larger than the size
mag_le_size : (z : ℤ) → mag z ≤ nat_abs z
mag_le_size (pos n) = le_refl n
mag_le_size (negsuc n) = omega arith

-- A number whose size is below 2 ^ 63 fits
pub fits : (z : ℤ) → nat_abs z < 2 ^ 63 → SFits w64 z
fits z h = record { sfits = lt_of_le_of_lt (mag_le_size z) h }

-- ---- what is read back from a signed local

-- A number that is known is read back as it is
pub read_back : {r : ℤ} (z : ℤ) → r ≡ z → nat_abs z < 2 ^ 63 → to_z w64 (of_z w64 r) ≡ z
read_back z e small = ap (λ (x : ℤ). to_z w64 (of_z w64 x)) e ∙ to_z-of_z w64 z (fits z small)

-- So is what an operation makes of two numbers that are known
pub carried : (op : ℤ → ℤ → ℤ) {a b r : ℤ} (x y : ℤ) → a ≡ x → b ≡ y → r ≡ op a b → nat_abs (op x y) < 2 ^ 63 → to_z w64 (of_z w64 r) ≡ op x y
carried op x y p q e small = read_back (op x y) (e ∙ ap₂ op p q) small

-- An operation on two signed parameters
module _ (op : ℤ → ℤ → ℤ) (a b : ℤ) (fa : SFits w64 a) (fb : SFits w64 b) (small : nat_abs (op a b) < 2 ^ 63) where
  -- What it gives fits
  pub result_fits : SFits w64 (op (to_z w64 (of_z w64 a)) (to_z w64 (of_z w64 b)))
  result_fits = subst⁻¹ (SFits w64) (ap₂ op (to_z-of_z w64 a fa) (to_z-of_z w64 b fb)) (fits (op a b) small)

  -- What it gives is the operation on the two numbers
  pub result_is : to_z w64 (of_z w64 (op (to_z w64 (of_z w64 a)) (to_z w64 (of_z w64 b)))) ≡ op a b
  result_is = carried op a b (to_z-of_z w64 a fa) (to_z-of_z w64 b fb) refl small

-- A local taken from zero holds its negative
pub from_zero : {r : ℤ} (z : ℤ) → nat_abs z < 2 ^ 63 → r ≡ pos 0 -ℤ to_z w64 (of_z w64 z) → to_z w64 (of_z w64 r) ≡ neg_ℤ z
from_zero z small e =
    read_back (neg_ℤ z) (e ∙ ap (λ (x : ℤ). pos 0 -ℤ x) (to_z-of_z w64 z (fits z small)) ∙ +ℤ_idl (neg_ℤ z))
    (subst⁻¹ (λ (n : ℕ). n < 2 ^ 63) (size_neg z) small)

-- ---- the sign's test

-- What holds of every number below zero holds where the test `z < 0` passed
pub below : (P : ℤ → Type 0) (z : ℤ) → lt_z z (pos 0) ≡ true → ((n : ℕ) → P (negsuc n)) → P z
below P (pos n) e each = absurd (false≢true (sym (leb-suc-zero n) ∙ e))
below P (negsuc n) e each = each n

-- What holds of every number not below zero holds where it failed
pub not_below : (P : ℤ → Type 0) (z : ℤ) → lt_z z (pos 0) ≡ false → ((n : ℕ) → P (pos n)) → P z
not_below P (pos n) e each = each n
not_below P (negsuc n) e each = absurd (true≢false e)

-- The test on a local is the test on its number
pub test_on : (z : ℤ) {t : Bool} → SFits w64 z → lt_z (to_z w64 (of_z w64 z)) (pos 0) ≡ t → lt_z z (pos 0) ≡ t
test_on z {t} f e = subst (λ (x : ℤ). lt_z x (pos 0) ≡ t) (to_z-of_z w64 z f) e

-- A number that is not below zero can be cast
pub casts : (z : ℤ) → SFits w64 z → lt_z z (pos 0) ≡ false → T (non_neg z) × Fits w64 (nat_abs z)
casts z f e = not_below (λ z. SFits w64 z → T (non_neg z) × Fits w64 (nat_abs z)) z e (λ n h. (tt, record { fits = omega (arith, h.sfits) })) f
