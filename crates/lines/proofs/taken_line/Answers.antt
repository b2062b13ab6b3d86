-- `lines::taken_line` meets its contract: field by field, each with its `;` and the last with LF.
use mathlib.Core.List.{[], ◌∷◌}
use Rattle.paper.specs.Text.{ascii, digits}
use Rattle.lines.proofs.Written.{all_left, others_left}
use Rattle.lines.proofs.taken_line.Goals as goal

pub returns : goal.returns
returns c =
    let fields = ascii "R" ∷ digits c.args.line ∷ digits c.args.long ∷ digits c.args.short ∷ [] in
    let all = all_left fields c.args.at c.args.report.now c.requires in
    let rest₁ = others_left all c.put-first.ensures in
    let rest₂ = others_left rest₁ c.put_field-second.ensures in
    let rest₃ = others_left rest₂ c.put_field-third.ensures in
    rest₃.whole c.put_field.ensures
