-- `securities::with_ranks` meets its contract. The loop's invariant: the rows before `i` have the places of their currencies.
use mathlib.Core.Path.{◌≡◌}
use lib.ListN.{length, take}
use Rattle.securities.specs.Ranks.{with_rank}
use Rattle.securities.proofs.with_ranks.Given as goal

abbrev pub invariant-loop-i : goal.invariant-loop-i
invariant-loop-i l =
    (length l.rows.items ≡ length l.initial.rows.items) × (l.rows.items ≡ with_rank l.currencies (take l.i l.money) l.initial.rows.items)
