-- `trades::trade_section` meets its contract. The loop's invariant: the table has the rows above, and the section goes on from
-- `at`. The measure is the bytes left up to `end`.
use Prim.Native.Nat.{◌-◌}
use mathlib.Core.Path.{◌≡◌}
use lib.ListN.{length, take}
use Rattle.sections.proofs.Rooms.{Judging}
use Rattle.trades.proofs.Turns.{judge}
use Rattle.trades.proofs.trade_section.Given as goal

abbrev pub invariant-loop-table : goal.invariant-loop-table
invariant-loop-table l =
    (size : length (take (length l.securities.rows.items) l.securities.codes) ≡ length l.securities.rows.items)
    → Judging (judge l.today l.securities size) l.s l.from l.first l.table.items l.at tt

abbrev pub decreases-loop-table : goal.decreases-loop-table
decreases-loop-table l = l.end - l.at
