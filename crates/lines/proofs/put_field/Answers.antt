-- `lines::put_field` meets its contract: a number, and a byte behind it.
use mathlib.Core.List.{[], ◌∷◌}
use Rattle.paper.specs.Text.{digits}
use Rattle.lines.proofs.Written.{parts, joined}
use Rattle.lines.proofs.put_field.Goals as goal

pub returns : goal.returns
returns c =
    joined (parts (digits c.args.n) (c.args.end ∷ [])) _ _ c.requires c.put_number-behind.ensures c.put.ensures
