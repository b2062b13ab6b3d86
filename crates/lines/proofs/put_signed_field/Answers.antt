-- `lines::put_signed_field` meets its contract: the sign's test tells whether `-` stands before the size.
use Rattle.std.proofs.Common.{rules, true, false, [], ◌∷◌, ◌++◌, ◌≡◌, refl, ℤ, pos, negsuc, nat_abs}
use lib.Signed.{lt_z}
use mir.Syntax.{w64}
use mir.ValLaws.{to_z-of_z}
use Rattle.paper.specs.Units.{Text}
use Rattle.paper.specs.Text.{hyphen, digits, signed_digits}
use Rattle.lines.specs.Written.{Wrote}
use Rattle.lines.proofs.Written.{Parts, parts, joined, none_written}
use Rattle.lines.proofs.put_signed_field.Goals as goal
use Rattle.lines.proofs.put_signed_field.Goals.{then-z-lt0, else-z-lt0}

-- What stands before a number's size
abbrev sign : ℤ → Text
sign (pos n) = []
sign (negsuc n) = hyphen ∷ []

-- A signed number is its sign, then its size
signed : (z : ℤ) (t : Text) → Parts (signed_digits z ++ t) (sign z) (digits (nat_abs z) ++ t)
signed (pos n) t = parts [] _
signed (negsuc n) t = parts (hyphen ∷ []) _

-- A number below zero has one
sign_below : (z : ℤ) → lt_z z (pos 0) ≡ true → sign z ≡ hyphen ∷ []
sign_below (pos n) e = search rules
sign_below (negsuc n) e = refl

-- Any other has none
sign_above : (z : ℤ) → lt_z z (pos 0) ≡ false → sign z ≡ []
sign_above (pos n) e = refl
sign_above (negsuc n) e = search rules

pub returns : goal.returns
returns c =
    let z = c.args.z in
    let same = to_z-of_z w64 z c.ranges.z in
    let before : Wrote (sign z) c.args.at c.args.report.now c.if-z-lt0.first c.if-z-lt0.report =
    elim c.if-z-lt0.branch [
      | then-z-lt0 w ↦ rw (sign_below z (rw same at w.if-z-lt0.true), w.first-is, w.report-is) w.put-first.ensures
      | else-z-lt0 w ↦ rw (sign_above z (rw same at w.if-z-lt0.false), w.first-is, w.report-is) (none_written _ _)
    ] in
    let size = rw same at c.unsigned_abs.ensures.value in
    joined (signed z (c.args.end ∷ [])) _ _ c.requires before (rw size at c.put_field.ensures)
