-- `lines::position_line` meets its contract: field by field, each with its `;` and the last with LF.
use mathlib.Core.List.{[], ◌∷◌}
use Rattle.paper.specs.Text.{ascii, digits}
use Rattle.lines.specs.Written.{money_text}
use Rattle.lines.proofs.Written.{all_left, others_left}
use Rattle.lines.proofs.position_line.Goals as goal

pub put_field-requires : goal.put_field-requires
put_field-requires c =
    let fields = ascii "K" ∷ money_text c.args.money ∷ digits c.args.class ∷ digits c.args.long ∷ digits c.args.short ∷ digits c.args.margin ∷ [] in
    let all = all_left fields c.args.at c.args.report.now c.requires.room in
    let rest₁ = others_left all c.put-first.ensures in
    let rest₂ = others_left rest₁ c.put_currency-second.ensures in
    let rest₃ = others_left rest₂ c.put_field-third.ensures in
    let rest₄ = others_left rest₃ c.put_field-fourth.ensures in
    let rest₅ = others_left rest₄ c.put_field-fifth.ensures in
    rest₅.fits

pub returns : goal.returns
returns c =
    let fields = ascii "K" ∷ money_text c.args.money ∷ digits c.args.class ∷ digits c.args.long ∷ digits c.args.short ∷ digits c.args.margin ∷ [] in
    let all = all_left fields c.args.at c.args.report.now c.requires.room in
    let rest₁ = others_left all c.put-first.ensures in
    let rest₂ = others_left rest₁ c.put_currency-second.ensures in
    let rest₃ = others_left rest₂ c.put_field-third.ensures in
    let rest₄ = others_left rest₃ c.put_field-fourth.ensures in
    let rest₅ = others_left rest₄ c.put_field-fifth.ensures in
    rest₅.whole c.put_field.ensures
