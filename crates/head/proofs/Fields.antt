-- Laws of the fields that a reader hands out.
use Prim.Native.Nat.{ℕ, suc, ◌+◌, ◌≤◌}
use native.Mathlib.Omega.{arith}
use mathlib.Core.Bool.{Bool, true, false, cond, not, ◌&&◌, ◌||◌}
use mathlib.Core.List.{[], ◌∷◌, ◌++◌, append_assoc}
use mathlib.Core.Path.{◌≡◌, refl, sym, ap, ◌∙◌}
use borrow.Author.Tests.{not-false}
use lib.Dec.{eqb}
use lib.ListN.{length, take, drop, length-drop, length-append, take-append-drop}
use lib.Seq.{length-take-le, take-append_seam}
use Rattle.paper.specs.Units.{Byte, Text}
use Rattle.paper.specs.Lists.{every}
use Rattle.paper.specs.Text.{LF, semicolon}
use Rattle.paper.proofs.Lists.{every_step, every_cons}
use Rattle.paper.proofs.Lines.{plain}
use Rattle.places.specs.Places.{Place}
use Rattle.head.specs.Fields.{is_mark, field_length, handed_out, behind_field}

-- ---- a field in its sheet

field_most : (t : Text) → field_length t ≤ length t
field_most [] = omega arith
field_most (b ∷ t) = go (is_mark b) (field_most t)
  where
    go : (m : Bool) → field_length t ≤ length t → suc (cond m 0 (field_length t)) ≤ suc (length t)
    go true h = omega arith
    go false h = omega arith

pub handed_within : (s : Text) (at : Place) → at ≤ length s → behind_field s at ≤ length s
handed_within s at h = omega (arith, field_most (drop at s), length-drop at s)

-- As long as it is to the place behind it
pub handed_size : (s : Text) (at : Place) {f : Text} → handed_out s at ≡ f → behind_field s at ≡ at + length f
handed_size s at e = omega (arith, ap length e, length-take-le (field_length (drop at s)) (drop at s) (field_most (drop at s)))

-- ---- a field that an LF ends

-- A byte ends a field or stands in it
mark_or_plain : (b : Byte) → is_mark b ≡ not (plain b)
mark_or_plain b = go (eqb b semicolon) (eqb b LF)
  where
    go : (x y : Bool) → (x || y) ≡ not (not x && not y)
    go true y = refl
    go false true = refl
    go false false = refl

-- What is handed out is the field and its LF
pub field_ended : (f r : Text) → every plain f ≡ true → field_length (f ++ (LF ∷ r)) ≡ suc (length f)
field_ended [] r h = refl
field_ended (b ∷ f) r h =
    let k = every_cons plain b f h in
    let other : is_mark b ≡ false = mark_or_plain b ∙ ap not k.0 in
    rw other (ap suc (field_ended f r k.1))

pub field_handed : (f r : Text) → every plain f ≡ true → take (field_length (f ++ (LF ∷ r))) (f ++ (LF ∷ r)) ≡ f ++ (LF ∷ [])
field_handed f r h =
    let size : field_length (f ++ (LF ∷ r)) ≡ length (f ++ (LF ∷ [])) = field_ended f r h ∙ omega (arith, length-append f (LF ∷ [])) in
    ap (λ (n : ℕ). take n (f ++ (LF ∷ r))) size
    ∙ ap (take (length (f ++ (LF ∷ [])))) (sym (append_assoc f (LF ∷ []) r))
    ∙ take-append_seam (f ++ (LF ∷ [])) r

-- And where the last byte that is handed out is an LF, it ends the field
marks_before : (t f : Text) → take (field_length t) t ≡ f ++ (LF ∷ []) → every plain f ≡ true
marks_before t [] e = refl
marks_before [] (c ∷ f) e = cc
marks_before (b ∷ t) (c ∷ f) e = go (is_mark b) refl (marks_before t f) e
  where
    nothing : (f : Text) → [] ≡ f ++ (LF ∷ []) → every plain (c ∷ f) ≡ true
    nothing [] e = cc
    nothing (d ∷ f) e = cc

    go : (m : Bool) → is_mark b ≡ m → (take (field_length t) t ≡ f ++ (LF ∷ []) → every plain f ≡ true)
        → b ∷ take (cond m 0 (field_length t)) t ≡ c ∷ (f ++ (LF ∷ [])) → every plain (c ∷ f) ≡ true
    go true m rest k = nothing f (cc)
    go false m rest k =
        let one : b ≡ c = cc in
        rw (every_step plain c f, ap plain (sym one) ∙ not-false (plain b) (sym (mark_or_plain b) ∙ m)) (rest (cc))

pub ended_by : (t f : Text) → take (field_length t) t ≡ f ++ (LF ∷ []) → (t ≡ f ++ (LF ∷ drop (field_length t) t)) × (every plain f ≡ true)
ended_by t f e = (
  sym (take-append-drop (field_length t) t) ∙ ap (λ (u : Text). u ++ drop (field_length t) t) e
      ∙ append_assoc f (LF ∷ []) (drop (field_length t) t),
  marks_before t f e,
)
