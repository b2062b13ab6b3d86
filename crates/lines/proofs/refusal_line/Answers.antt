-- `lines::refusal_line` meets its contract: field by field, each with its `;` and the last with LF.
use mathlib.Core.List.{[], ◌∷◌}
use Rattle.paper.specs.Text.{ascii, digits}
use Rattle.lines.proofs.Written.{all_left, others_left}
use Rattle.lines.proofs.refusal_line.Goals as goal

pub returns : goal.returns
returns c =
    let fields = ascii "N" ∷ digits c.args.number ∷ digits c.args.line ∷ [] in
    let all = all_left fields c.args.at c.args.report.now c.requires in
    let rest₁ = others_left all c.put-first.ensures in
    let rest₂ = others_left rest₁ c.put_field-second.ensures in
    rest₂.whole c.put_field.ensures
