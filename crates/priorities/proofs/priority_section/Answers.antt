-- `priorities::priority_section` meets its contract. The loop's invariant: the table has the rows above, and the section goes on
-- from `at`. The measure is the bytes left up to `end`.
use native.Mathlib.Omega.{arith}
use mathlib.Core.Path.{sym}
use Rattle.tables.specs.Back.{paper_classes}
use Rattle.sections.proofs.Rooms.{turn_start, judging_refused, judging_row, judging_broken, judging_more, judging_ended}
use Rattle.priorities.proofs.Turns.{room, judge}
use Rattle.priorities.proofs.priority_section.Goals as goal

pub loop-known-init : goal.loop-known-init
loop-known-init c =
    rw c.new-table.ensures
    (record { turn = turn_start (room (paper_classes c.args.classes.now)) c.args.s.now c.args.from c.args.first (omega arith); seen_is = c.known_classes-known.ensures })

pub returns-in_default : goal.returns-in_default
returns-in_default c =
    judging_refused (judge (paper_classes c.args.classes.now)) c.loop-known.invariant c.requires.1 c.goes_on.ensures c.loop-known-test.true c.priority_row-read.ensures
    c.unwrap_err.ensures c.len.ensures.value

pub returns-in-Some : goal.returns-in-Some
returns-in-Some c =
    let all = judge (paper_classes c.args.classes.now) in
    let r = judging_row all c.loop-known.invariant c.requires.1 c.goes_on.ensures c.loop-known-test.true c.priority_row-read.ensures c.in-Ok.is in
    judging_broken all c.loop-known.invariant r c.len-in-loop-known.ensures.value c.broken.ensures c.in-Some.is c.len.ensures.value

pub loop-known-smaller : goal.loop-known-smaller
loop-known-smaller c =
    let r = judging_row (judge (paper_classes c.args.classes.now)) c.loop-known.invariant c.requires.1 c.goes_on.ensures c.loop-known-test.true c.priority_row-read.ensures c.in-Ok.is in
    omega (arith, r.further, c.requires.1)

pub loop-known-preserved : goal.loop-known-preserved
loop-known-preserved c =
    let all = judge (paper_classes c.args.classes.now) in
    let r = judging_row all c.loop-known.invariant c.requires.1 c.goes_on.ensures c.loop-known-test.true c.priority_row-read.ensures c.in-Ok.is in
    judging_more all c.loop-known.invariant r c.len-in-loop-known.ensures.value c.broken.ensures c.in_default-broken.is (sym r.held_is) c.known_classes-known.ensures c.push.ensures.items

pub returns : goal.returns
returns c =
    let j = c.loop-known.invariant in
    judging_ended (judge (paper_classes c.args.classes.now)) j c.requires.1 c.goes_on.ensures c.loop-known-test.false (λ i. record { items = j.turn.table_is i })
