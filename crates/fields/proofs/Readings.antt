-- What a reading tells: a number in a range, a rate's size; and trades and sides as fields of one of two letters.
use Prim.Native.Nat.{ℕ, ◌≤◌}
use native.Mathlib.Omega.{arith}
use mathlib.Core.Bool.{Bool, true, false, cond}
use mathlib.Core.List.{[], ◌∷◌}
use mathlib.Core.Option.{none, some, map}
use mathlib.Core.Path.{◌≡◌, refl}
use borrow.Author.Tests.{leb-true}
use lib.IntN.{nat_abs}
use Rattle.paper.specs.Units.{Text, Rate}
use Rattle.paper.specs.Lists.{between, when}
use Rattle.paper.specs.Text.{same, number_in, signed_in}
use Rattle.paper.specs.Rows.{repo, cash, trade_in, seller, purchaser, side_in}
use Rattle.paper.specs.Refusals.{is_rate}
use Rattle.paper.proofs.Lists.{bind_some, when_some, bounds}
use Rattle.tables.specs.Numbers.{trade_number, side_number}
use Rattle.fields.specs.Values.{ranged_in, rate_in, letter_in}

-- Nothing is there only where its test fails
pub when_none : {A : Type 0} (b : Bool) (a : A) → when b a ≡ none → b ≡ false
when_none true a e = let z : ◌≡◌ {A = ℕ} 0 1 = cc in absurd (omega arith)
when_none false a e = refl

-- ---- of numbers

-- What is read in a range is in it
pub ranged_bounds : (lowest most : ℕ) (t : Text) (n : ℕ) → ranged_in lowest most t ≡ some n → (lowest ≤ n) × (n ≤ most)
ranged_bounds lowest most t n e =
    let k = bind_some (number_in t) (λ m. when (between lowest most m) m) n e in
    let w = when_some (between lowest most k.0) k.0 n k.2 in
    rw w.1 at (bounds lowest most k.0 w.0)

-- A rate is at most 200,000 in size, ten-thousandths of a percent
pub rate_size : (t : Text) (r : Rate) → rate_in t ≡ some r → nat_abs r ≤ 200_000
rate_size t r e =
    let k = bind_some (signed_in t) (λ z. when (is_rate z) z) r e in
    let w = when_some (is_rate k.0) k.0 r k.2 in
    rw w.1 at (leb-true (nat_abs k.0) 200_000 w.0)

-- ---- of letters

-- Trades and sides are two letters each
module _ {A : Type 0} (number : A → ℕ) (zeroth first : A) where
  numbered : (p q : Bool)
      → map number (elim p [ true ↦ some zeroth | false ↦ elim q [ true ↦ some first | false ↦ none ] ])
      ≡ cond p (some (number zeroth)) (cond q (some (number first)) none)
  numbered true q = refl
  numbered false true = refl
  numbered false false = refl

pub trade_letter_lem : (t : Text) → map trade_number (trade_in t) ≡ letter_in 82 67 t
trade_letter_lem t = numbered trade_number repo cash (same (82 ∷ []) t) (same (67 ∷ []) t)

pub side_letter_lem : (t : Text) → map side_number (side_in t) ≡ letter_in 83 80 t
side_letter_lem t = numbered side_number seller purchaser (same (83 ∷ []) t) (same (80 ∷ []) t)
