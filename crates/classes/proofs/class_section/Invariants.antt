-- `classes::class_section` meets its contract. The loop's invariant: the table has the rows above, and the section goes on from
-- `at` with what is seen of them. The measure is the bytes left up to `end`.
use Prim.Native.Nat.{◌-◌}
use Rattle.sections.proofs.Rooms.{Judging}
use Rattle.classes.proofs.Turns.{judge}
use Rattle.classes.proofs.class_section.Given as goal

abbrev pub invariant-loop-seen : goal.invariant-loop-seen
invariant-loop-seen l = Judging judge l.s l.from l.first l.table.items l.at l.seen

abbrev pub decreases-loop-seen : goal.decreases-loop-seen
decreases-loop-seen l = l.end - l.at
