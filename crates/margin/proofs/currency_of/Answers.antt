-- `margin::currency_of` meets its contract: the rows lower every position, so margins and total stay within the table of bounds.
use Prim.Native.Nat.{◌≤◌}
use mathlib.Core.Path.{subst⁻¹}
use lib.IntN.{ℤ, nat_abs}
use mir.Syntax.{w64}
use mir.ValLaws.{to_z-of_z}
use Rattle.paper.specs.Bounds.{most_mark_sum}
use Rattle.paper.proofs.Totals.{remaining_most}
use Rattle.margin.proofs.Positions.{initial_most}
use Rattle.margin.proofs.currency_of.Goals as goal

pub margins_of-initial-requires : goal.margins_of-initial-requires
margins_of-initial-requires c =
    (c.requires.rows.0, c.requires.rows.1, rw c.offset_all.ensures (remaining_most _ _ c.requires.amounts.0))

pub total-requires : goal.total-requires
total-requires c = (
  rw (c.margins_of-initial.ensures, c.offset_all.ensures)
      (initial_most _ c.requires.rows.0 c.requires.rows.1 (remaining_most _ _ c.requires.amounts.0)),
  subst⁻¹ (λ (z : ℤ). nat_abs z ≤ most_mark_sum) (to_z-of_z w64 c.args.mark c.ranges.mark) c.requires.amounts.1,
)
