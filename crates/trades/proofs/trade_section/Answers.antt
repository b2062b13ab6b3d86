-- `trades::trade_section` meets its contract. The loop's invariant: the table has the rows above, and the section goes on from
-- `at`. The measure is the bytes left up to `end`.
use native.Mathlib.Omega.{arith}
use mathlib.Core.Path.{refl, sym, ap, ◌∙◌, subst}
use Rattle.sections.proofs.Rooms.{turn_start, judging_refused, judging_row, judging_broken, judging_more, judging_ended}
use Rattle.trades.specs.Found.{Small, judged_of}
use Rattle.trades.proofs.Turns.{codes_counted, refusal_of, room, small, kept_alike}
use Rattle.trades.proofs.trade_section.Goals as goal

pub loop-table-init : goal.loop-table-init
loop-table-init c size =
    rw c.new-table.ensures
    (record { turn = turn_start (room c.args.today c.args.securities.now) c.args.s.now c.args.from c.args.first (omega arith); seen_is = refl })

pub returns-in_default : goal.returns-in_default
returns-in_default c =
    let j = c.loop-table.invariant (codes_counted _ _ c.requires.codes) in
    judging_refused _ j c.requires.sheet_and_days.1 c.goes_on.ensures c.loop-table-test.true c.trade_row-read.ensures c.unwrap_err.ensures c.len.ensures.value

pub judged-judged-requires-clause-row : goal.judged-judged-requires-clause-row
judged-judged-requires-clause-row c =
    let j = c.loop-table.invariant (codes_counted _ _ c.requires.codes) in
    let r = judging_row _ j c.requires.sheet_and_days.1 c.goes_on.ensures c.loop-table-test.true c.trade_row-read.ensures c.in-Ok.is in
    (subst Small r.held_is (small c.args.today c.args.securities.now c.args.s.now c.loop-table.at r.row_is r.own), c.requires.sheet_and_days.3)

pub returns-in_default-judged : goal.returns-in_default-judged
returns-in_default-judged c =
    let j = c.loop-table.invariant (codes_counted _ _ c.requires.codes) in
    let r = judging_row _ j c.requires.sheet_and_days.1 c.goes_on.ensures c.loop-table-test.true c.trade_row-read.ensures c.in-Ok.is in
    let told = rw c.requires.sheet_and_days.2 at c.judged-judged.ensures in
    judging_broken _ j r c.len-in-loop-table.ensures.value (ap refusal_of told) (ap refusal_of c.unwrap_err-in_default-judged.ensures) c.len.ensures.value

pub loop-table-smaller : goal.loop-table-smaller
loop-table-smaller c =
    let j = c.loop-table.invariant (codes_counted _ _ c.requires.codes) in
    let r = judging_row _ j c.requires.sheet_and_days.1 c.goes_on.ensures c.loop-table-test.true c.trade_row-read.ensures c.in-Ok.is in
    omega (arith, r.further, c.requires.sheet_and_days.1)

pub loop-table-preserved : goal.loop-table-preserved
loop-table-preserved c size =
    let j = c.loop-table.invariant size in
    let r = judging_row _ j c.requires.sheet_and_days.1 c.goes_on.ensures c.loop-table-test.true c.trade_row-read.ensures c.in-Ok.is in
    let told = rw c.requires.sheet_and_days.2 at c.judged-judged.ensures in
    let trade = kept_alike c.args.today c.args.securities.now size c.args.s.now c.loop-table.at r.row_is c.len-in-loop-table.result
    (ap (judged_of _ _ c.args.securities.now c.len-in-loop-table.result) r.held_is ∙ sym told ∙ c.in-Ok-judged.is)
    in
    judging_more _ j r c.len-in-loop-table.ensures.value (ap refusal_of told) (ap refusal_of c.in-Ok-judged.is) trade refl c.push.ensures.items

pub returns : goal.returns
returns c =
    let j = c.loop-table.invariant (codes_counted _ _ c.requires.codes) in
    judging_ended _ j c.requires.sheet_and_days.1 c.goes_on.ensures c.loop-table-test.false (λ i. record { items = j.turn.table_is i })
