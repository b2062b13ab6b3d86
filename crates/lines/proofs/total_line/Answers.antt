-- `lines::total_line` meets its contract: field by field, each with its `;` and the last with LF.
use mathlib.Core.List.{[], ◌∷◌}
use mir.Syntax.{w64}
use mir.ValLaws.{to_z-of_z}
use Rattle.paper.specs.Text.{ascii, digits, signed_digits}
use Rattle.lines.specs.Written.{money_text}
use Rattle.lines.proofs.Written.{all_left, others_left}
use Rattle.lines.proofs.total_line.Goals as goal

pub returns : goal.returns
returns c =
    let fields = ascii "Z" ∷ money_text c.args.money ∷ signed_digits c.args.mark ∷ digits c.args.initial ∷ digits c.args.total ∷ [] in
    let all = all_left fields c.args.at c.args.report.now c.requires.room in
    let rest₁ = others_left all c.put-first.ensures in
    let rest₂ = others_left rest₁ c.put_currency-second.ensures in
    let rest₃ = others_left rest₂ (rw (to_z-of_z w64 c.args.mark c.ranges.mark) at c.put_signed_field-third.ensures) in
    let rest₄ = others_left rest₃ c.put_field-fourth.ensures in
    rest₄.whole c.put_field.ensures
