-- `classes::class_section` meets its contract. The loop's invariant: the table has the rows above, and the section goes on from
-- `at` with what is seen of them. The measure is the bytes left up to `end`.
use native.Mathlib.Omega.{arith}
use mathlib.Core.Path.{refl, sym, ap₂}
use Rattle.tables.specs.declared.ClassRow.{ClassRow}
use Rattle.classes.specs.Seen.{after_of}
use Rattle.classes.specs.declared.Seen.{Seen}
use Rattle.sections.proofs.Rooms.{turn_start, judging_refused, judging_row, judging_broken, judging_more, judging_ended}
use Rattle.classes.proofs.Turns.{room, judge}
use Rattle.classes.proofs.class_section.Goals as goal

pub loop-seen-init : goal.loop-seen-init
loop-seen-init c =
    rw (c.new-table.ensures, c.none-seen.ensures)
    (record { turn = turn_start room c.args.s.now c.args.from c.args.first (omega arith); seen_is = refl })

pub returns-in_default : goal.returns-in_default
returns-in_default c =
    judging_refused judge c.loop-seen.invariant c.requires.1 c.goes_on.ensures c.loop-seen-test.true c.class_row-read.ensures c.unwrap_err.ensures c.len.ensures.value

pub returns-in-Some : goal.returns-in-Some
returns-in-Some c =
    let r = judging_row judge c.loop-seen.invariant c.requires.1 c.goes_on.ensures c.loop-seen-test.true c.class_row-read.ensures c.in-Ok.is in
    judging_broken judge c.loop-seen.invariant r c.len-in-loop-seen.ensures.value c.broken.ensures c.in-Some.is c.len.ensures.value

pub loop-seen-smaller : goal.loop-seen-smaller
loop-seen-smaller c =
    let r = judging_row judge c.loop-seen.invariant c.requires.1 c.goes_on.ensures c.loop-seen-test.true c.class_row-read.ensures c.in-Ok.is in
    omega (arith, r.further, c.requires.1)

pub loop-seen-preserved : goal.loop-seen-preserved
loop-seen-preserved c =
    let r = judging_row judge c.loop-seen.invariant c.requires.1 c.goes_on.ensures c.loop-seen-test.true c.class_row-read.ensures c.in-Ok.is in
    rw c.add.ensures
    (judging_more judge c.loop-seen.invariant r c.len-in-loop-seen.ensures.value c.broken.ensures c.in_default-broken.is (sym r.held_is)
    (ap₂ (λ (s : Seen) (c : ClassRow). after_of s c) c.loop-seen.invariant.seen_is (sym r.held_is)) c.push.ensures.items)

pub returns : goal.returns
returns c =
    judging_ended judge c.loop-seen.invariant c.requires.1 c.goes_on.ensures c.loop-seen-test.false (λ i. record { items = c.loop-seen.invariant.turn.table_is i })
