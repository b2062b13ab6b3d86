-- `fields::date` meets its contract: eight bytes are a date where all are digits.
use mathlib.Core.Bool.{Bool, true, false}
use mathlib.Core.Path.{◌≡◌, refl, ◌∙◌}
use borrow.Author.Tests.{eq-eqb, ne_eqb}
use lib.ListN.{length}
use Rattle.std.specs.Option.{unwrap_or}
use Rattle.answers.specs.Options.{answer}
use Rattle.paper.specs.Units.{Text}
use Rattle.paper.specs.Lists.{every}
use Rattle.paper.specs.Text.{is_digit, date_in}
use Rattle.fields.specs.Values.{digits_in}
use Rattle.fields.proofs.date.Goals as goal

-- Other than eight bytes are no date
not_eight : (t : Text) → (length t ≡ 8 → ⊥) → 0 ≡ date_in t
unfolding date_in
not_eight t n = simp (ne_eqb (length t) 8 n)

-- Eight bytes are the date that they mean where all are digits
eight : (t : Text) → length t ≡ 8 → unwrap_or (answer (digits_in t)) 0 ≡ date_in t
unfolding date_in
eight t l = go (every is_digit t) refl
  where
    go : (x : Bool) → every is_digit t ≡ x → unwrap_or (answer (digits_in t)) 0 ≡ date_in t
    go true e = simp (e, eq-eqb (length t) 8 l)
    go false e = simp (e, eq-eqb (length t) 8 l)

pub returns-then-text-ne8 : goal.returns-then-text-ne8
returns-then-text-ne8 c = not_eight c.args.text.now c.if-text-ne8.true

pub returns : goal.returns
returns c = c.unwrap_or.ensures ∙ rw c.digits.ensures (eight c.args.text.now c.if-text-ne8.false)
