-- `fields::plain` meets its contract: what is left after its refusals is a number where all its bytes are digits.
use Prim.Native.Nat.{◌≤◌, ◌<◌}
use native.Mathlib.Omega.{arith}
use mathlib.Core.Bool.{Bool, true, false, ◌&&◌, and-true, and-false}
use mathlib.Core.List.{[], ◌∷◌}
use mathlib.Core.Option.{none}
use mathlib.Core.Path.{◌≡◌, refl, sym, ap, ◌∙◌}
use borrow.Author.Tests.{eqb-true, eqb-false, leb-true, leb-false, le-leb, lt-leb}
use lib.Dec.{leb}
use lib.ListN.{length, get_or}
use Rattle.answers.specs.Options.{answer}
use Rattle.paper.specs.Units.{Byte, Text}
use Rattle.paper.specs.Lists.{every, between}
use Rattle.paper.specs.Text.{is_digit, is_number, number_in}
use Rattle.paper.proofs.Lists.{every_step}
use Rattle.fields.specs.Values.{digits_in}
use Rattle.fields.proofs.plain.Goals as goal
use Rattle.fields.proofs.plain.Goals.{then-is_empty-via-then-is_empty, then-is_empty-via-else-is_empty+then-text-gt19, else-text-gt1-via-then-text-gt1+else-text-eq48, else-text-gt1-via-else-text-gt1}

-- More than 19 bytes are no number
too_long : (t : Text) → 19 < length t → number_in t ≡ none
unfolding number_in
too_long t h = simp (lt-leb (length t) 19 h)

-- What has not the form of a number is none
no_form : (t : Text) → is_number t ≡ false → number_in t ≡ none
unfolding number_in
no_form t e = simp (e, and-false)

-- A blank field has not the form of a number, nor has more than one byte of which the first is `0`
blank : (t : Text) → length t ≡ 0 → is_number t ≡ false
blank [] e = refl
blank (b ∷ t) e = absurd (omega arith)

zero_first : (t : Text) → 1 < length t → get_or t 0 0 ≡ 48 → is_number t ≡ false
zero_first [] h e = absurd (omega arith)
zero_first (b ∷ []) h e = absurd (omega arith)
zero_first (b ∷ c ∷ t) h e = rw e

-- A digit other than `0` is one of 1 to 9
not_zero : (b : Byte) → (b ≡ 48 → ⊥) → between 49 57 b ≡ is_digit b
not_zero b n = go (leb 49 b) refl
  where
    go : (x : Bool) → leb 49 b ≡ x → between 49 57 b ≡ is_digit b
    go true e = let h = leb-true 49 b e in simp (e, le-leb 48 b (omega arith))
    go false e = let h = leb-false 49 b e in simp (e, lt-leb 48 b (omega arith))

-- Any other bytes have the form of a number where all are digits
all_digits : (t : Text) → (length t ≡ 0 → ⊥) → (1 < length t → get_or t 0 0 ≡ 48 → ⊥) → is_number t ≡ every is_digit t
all_digits [] h n = absurd (h refl)
all_digits (b ∷ []) h n = sym (every_step is_digit b [] ∙ and-true (is_digit b))
all_digits (b ∷ c ∷ t) h n =
    ap (λ (x : Bool). x && every is_digit (c ∷ t)) (not_zero b (n (omega arith))) ∙ sym (every_step is_digit b (c ∷ t))

-- So they are read as digits, where they are not too many
as_digits : (t : Text) → length t ≤ 19 → is_number t ≡ every is_digit t → number_in t ≡ digits_in t
unfolding number_in
as_digits t h e = simp (le-leb (length t) 19 h, e)

pub returns-then-is_empty : goal.returns-then-is_empty
returns-then-is_empty c =
    let t = c.args.text.now in
    elim c.then-is_empty.branch [
      | then-is_empty-via-then-is_empty w ↦ sym (ap answer (no_form t (blank t (eqb-true (length t) 0 (sym c.is_empty.ensures ∙ w.if-is_empty.true)))))
      | then-is_empty-via-else-is_empty+then-text-gt19 w ↦ sym (ap answer (too_long t w.if-text-gt19.true))
    ]

pub returns-then-text-eq48 : goal.returns-then-text-eq48
returns-then-text-eq48 c =
    let t = c.args.text.now in
    sym (ap answer (no_form t (zero_first t c.if-text-gt1.true c.if-text-eq48.true)))

pub returns : goal.returns
returns c =
    let t = c.args.text.now in
    let some = eqb-false (length t) 0 (sym c.is_empty.ensures ∙ c.if-is_empty.false) in
    let front : 1 < length t → get_or t 0 0 ≡ 48 → ⊥ =
    elim c.else-text-gt1.branch [
      | else-text-gt1-via-then-text-gt1+else-text-eq48 w ↦ λ h. w.if-text-eq48.false
      | else-text-gt1-via-else-text-gt1 w ↦ λ h e. omega arith
    ] in
    c.digits.ensures ∙ sym (ap answer (as_digits t c.if-text-gt19.false (all_digits t some front)))
