-- `priorities::priority_section` meets its contract. The loop's invariant: the table has the rows above, and the section goes on
-- from `at`. The measure is the bytes left up to `end`.
use Prim.Native.Nat.{◌-◌}
use Rattle.tables.specs.Back.{paper_classes}
use Rattle.sections.proofs.Rooms.{Judging}
use Rattle.priorities.proofs.Turns.{judge}
use Rattle.priorities.proofs.priority_section.Given as goal

abbrev pub invariant-loop-known : goal.invariant-loop-known
invariant-loop-known l = Judging (judge (paper_classes l.classes)) l.s l.from l.first l.table.items l.at l.known

abbrev pub decreases-loop-known : goal.decreases-loop-known
decreases-loop-known l = l.end - l.at
