-- A field as a part of the sheet: its first byte and the rest, and its size.
use Prim.Native.Nat.{ℕ, ◌+◌, ◌-◌, ◌≤◌, ◌<◌}
use native.Mathlib.Numerals.{add-one}
use native.Mathlib.Omega.{arith}
use mathlib.Core.Bool.{true, false}
use mathlib.Core.List.{[], ◌∷◌}
use mathlib.Core.Path.{◌≡◌, sym, ap, ◌∙◌}
use borrow.Author.Tests.{eq-eqb, ne_eqb}
use lib.Dec.{eqb}
use lib.ListN.{length, get_or}
use lib.Seq.{slice, slice-cons, slice_empty, length-slice}
use Rattle.paper.specs.Units.{Text}

-- A part that has bytes: its first and the rest, as the code counts
pub part_step : (s : Text) (at end : ℕ) → at < end → end ≤ length s → slice at end s ≡ get_or s at 0 ∷ slice (at + 1) end s
part_step s at end h k = rw add-one (slice-cons at end s 0 h k)

-- A part that has none
pub part_empty : (s : Text) (at end : ℕ) → at ≡ end → slice at end s ≡ []
part_empty s at end e = rw e (slice_empty end s)

-- A part of one byte
pub part_one : (s : Text) (at end : ℕ) → end ≤ length s → end - at ≡ 1 → slice at end s ≡ get_or s at 0 ∷ []
part_one s at end k e =
    part_step s at end (omega arith) k ∙ ap (λ (t : Text). get_or s at 0 ∷ t) (part_empty s (at + 1) end (omega arith))

-- Whether a part has so many bytes
pub part_sized : (s : Text) (at end n : ℕ) → end ≤ length s → end - at ≡ n → eqb (length (slice at end s)) n ≡ true
part_sized s at end n k e = eq-eqb (length (slice at end s)) n (length-slice at end s k ∙ e)

pub part_unsized : (s : Text) (at end n : ℕ) → end ≤ length s → (end - at ≡ n → ⊥) → eqb (length (slice at end s)) n ≡ false
part_unsized s at end n k e = ne_eqb (length (slice at end s)) n (λ l. e (sym (length-slice at end s k) ∙ l))
