-- `lines::mark_line` meets its contract: field by field, each with its `;` and the last with LF.
use mathlib.Core.List.{[], ◌∷◌}
use mir.Syntax.{w64}
use mir.ValLaws.{to_z-of_z}
use Rattle.paper.specs.Text.{ascii, digits, signed_digits}
use Rattle.lines.specs.Written.{money_text}
use Rattle.lines.proofs.Written.{all_left, others_left}
use Rattle.lines.proofs.mark_line.Goals as goal

pub returns : goal.returns
returns c =
    let fields = ascii "M" ∷ digits c.args.line ∷ money_text c.args.money ∷ signed_digits c.args.mark ∷ [] in
    let all = all_left fields c.args.at c.args.report.now c.requires.room in
    let rest₁ = others_left all c.put-first.ensures in
    let rest₂ = others_left rest₁ c.put_field-second.ensures in
    let rest₃ = others_left rest₂ c.put_currency-third.ensures in
    rest₃.whole (rw (to_z-of_z w64 c.args.mark c.ranges.mark) at c.put_signed_field.ensures)
