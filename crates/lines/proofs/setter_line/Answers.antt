-- `lines::setter_line` meets its contract: field by field, each with its `;` and the last with LF.
use Prim.Native.Nat.{max}
use mathlib.Core.List.{[], ◌∷◌}
use Rattle.paper.specs.Text.{ascii, line_of, digits}
use Rattle.paper.specs.Explanation.{setter_of, setter_letter}
use Rattle.lines.proofs.Written.{Left, all_left, others_left}
use Rattle.lines.proofs.setter_line.Goals as goal

pub returns : goal.returns
returns c =
    let amount = max c.args.long c.args.short in
    let fields = ascii "B" ∷ setter_letter (setter_of c.args.long c.args.short) ∷ digits amount ∷ [] in
    let rest₁ : Left (line_of fields) c.args.at c.args.report.now ((c.setter_letter.result ∷ []) ∷ digits amount ∷ []) c.put-first.result c.put-first.new.report =
    rw c.setter_letter.ensures (others_left (all_left fields c.args.at c.args.report.now c.requires) c.put-first.ensures) in
    let rest₂ : Left (line_of fields) c.args.at c.args.report.now (digits c.max.result ∷ []) c.put-second.result c.put-second.new.report =
    rw c.max.ensures (others_left rest₁ c.put-second.ensures) in
    rest₂.whole c.put_field.ensures
