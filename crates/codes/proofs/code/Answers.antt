-- `codes::code` meets its contract: the field's size decides first, then its two letters, and then all that is left.
use native.Mathlib.Omega.{arith}
use mathlib.Core.Bool.{◌&&◌, and-true}
use mathlib.Core.List.{[], ◌∷◌}
use mathlib.Core.Path.{◌≡◌, sym, ap, ◌∙◌}
use borrow.Author.Tests.{eq-eqb, ne_eqb}
use lib.ListN.{length, get_or, take}
use Rattle.answers.specs.Options.{answer}
use Rattle.paper.specs.Units.{Text}
use Rattle.paper.specs.Lists.{every}
use Rattle.paper.specs.Text.{is_letter}
use Rattle.paper.proofs.Lists.{every_step}
use Rattle.codes.proofs.Checks.{code_unsized, code_unlettered, code_rest}
use Rattle.codes.proofs.code.Goals as goal

-- Whether the first two bytes of a field are letters
two_letters : (t : Text) → length t ≡ 12 → every is_letter (take 2 t) ≡ (is_letter (get_or t 0 0) && is_letter (get_or t 1 0))
two_letters [] e = absurd (omega arith)
two_letters (x ∷ []) e = absurd (omega arith)
two_letters (x ∷ y ∷ t) e = cc (every_step is_letter x (y ∷ []), every_step is_letter y [], and-true (is_letter y))

pub returns-then-text-ne12 : goal.returns-then-text-ne12
returns-then-text-ne12 c = sym (ap answer (code_unsized c.args.text.now (ne_eqb _ 12 c.if-text-ne12.true)))

pub returns-then-is_ascii_uppercase : goal.returns-then-is_ascii_uppercase
returns-then-is_ascii_uppercase c =
    let t = c.args.text.now in
    let letters = rw (c.is_ascii_uppercase.ensures.value, c.is_ascii_uppercase-2.ensures.value) at c.if-is_ascii_uppercase.true in
    c.checked_number.ensures
    ∙ ap answer (code_rest t (eq-eqb _ 12 c.if-text-ne12.false) (two_letters t c.if-text-ne12.false ∙ letters))

pub returns-else-is_ascii_uppercase : goal.returns-else-is_ascii_uppercase
returns-else-is_ascii_uppercase c =
    let t = c.args.text.now in
    let letters = rw (c.is_ascii_uppercase.ensures.value, c.is_ascii_uppercase-2.ensures.value) at c.if-is_ascii_uppercase.false in
    sym (ap answer (code_unlettered t (eq-eqb _ 12 c.if-text-ne12.false) (two_letters t c.if-text-ne12.false ∙ letters)))
