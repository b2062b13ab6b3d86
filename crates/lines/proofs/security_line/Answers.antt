-- `lines::security_line` meets its contract: field by field, each with its `;` and the last with LF.
use mathlib.Core.List.{[], ◌∷◌}
use mir.Syntax.{w64}
use mir.ValLaws.{to_z-of_z}
use Rattle.paper.specs.Text.{ascii, signed_digits}
use Rattle.lines.specs.Written.{code_text}
use Rattle.lines.proofs.Written.{all_left, others_left}
use Rattle.lines.proofs.security_line.Goals as goal

pub returns : goal.returns
returns c =
    let fields = ascii "P" ∷ code_text c.args.code ∷ signed_digits c.args.net ∷ [] in
    let all = all_left fields c.args.at c.args.report.now c.requires in
    let rest₁ = others_left all c.put-first.ensures in
    let rest₂ = others_left rest₁ c.put_code-second.ensures in
    rest₂.whole (rw (to_z-of_z w64 c.args.net c.ranges.net) at c.put_signed_field.ensures)
