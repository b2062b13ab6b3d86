-- `securities::security_section` meets its contract. The loop's invariant: the tables have the rows above, and the section goes on
-- from `at` with what they tell. The measure is the bytes left up to `end`.
use Prim.Native.Nat.{◌-◌}
use Rattle.sections.proofs.Rooms.{Judging}
use Rattle.securities.proofs.Turns.{judge}
use Rattle.securities.proofs.security_section.Given as goal

abbrev pub invariant-loop-last : goal.invariant-loop-last
invariant-loop-last l =
    Judging (judge l.classes.items) l.s l.from l.first l.table.rows.items l.at
    (record { currencies = l.table.currencies.items; last = l.last; codes = l.table.codes; money = l.money.items })

abbrev pub decreases-loop-last : goal.decreases-loop-last
decreases-loop-last l = l.end - l.at
