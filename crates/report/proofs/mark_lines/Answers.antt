-- `report::mark_lines` meets its contract: in a turn the trade at hand is the row at its place.
use Rattle.std.proofs.Common.{rules, ℕ, zero, suc, ◌+◌, ◌≤◌, arith, List, refl, pos, length, get_or}
use mir.Syntax.{w64}
use mir.Val.{SFits}
use mir.ValLaws.{to_z-of_z}
use Rattle.paper.specs.Lists.{Each, nil, cons}
use Rattle.report.specs.Texts.{mark_text}
use Rattle.report.proofs.Loops.{texts, turn_room, turn}
use Rattle.report.proofs.mark_lines.Goals as goal

-- What is true of each entry and of what stands behind them is true at any place
each_any : {A : Type 0} {P : A → Type 0} {xs : List A} (n : ℕ) (other : A) → P other → Each P xs → P (get_or xs n other)
each_any n other none nil = none
each_any zero other none (cons p rest) = p
each_any (suc n) other none (cons p rest) = each_any n other none rest

pub put_mark-at-requires-clause-currency : goal.put_mark-at-requires-clause-currency
put_mark-at-requires-clause-currency c =
    rw c.at.ensures (each_any _ 0 (omega arith) c.requires.writable.money)

pub put_mark-at-requires-clause-room : goal.put_mark-at-requires-clause-room
put_mark-at-requires-clause-room c =
    let t = c.args.tables.now in
    let i = c.loop-i.i in
    let trades = c.as_slice-trade-items.ensures.value in
    let fits : SFits w64 (get_or c.args.figures.now.marks i (pos 0)) = search rules in
    let room : 0 + length (texts (mark_text t c.args.figures.now) (length t.trades.items)) ≤ length c.args.report.now = omega (arith, c.requires.room) in
    turn_room (mark_text t c.args.figures.now) (length t.trades.items) 0 c.args.report.now room i (rw trades at c.loop-i-test.true) c.loop-i.invariant
    (rw (c.at.ensures, c.at-security.ensures, trades, c.len.ensures.value, c.len-2.ensures.value, c.len-3.ensures.value, to_z-of_z w64 (get_or c.args.figures.now.marks i (pos 0)) fits) refl)

pub loop-i-preserved : goal.loop-i-preserved
loop-i-preserved c =
    let t = c.args.tables.now in
    let i = c.loop-i.i in
    let trades = c.as_slice-trade-items.ensures.value in
    let fits : SFits w64 (get_or c.args.figures.now.marks i (pos 0)) = search rules in
    let room : 0 + length (texts (mark_text t c.args.figures.now) (length t.trades.items)) ≤ length c.args.report.now = omega (arith, c.requires.room) in
    turn (mark_text t c.args.figures.now) (length t.trades.items) 0 c.args.report.now room i (rw trades at c.loop-i-test.true) c.loop-i.invariant
    (rw (c.at.ensures, c.at-security.ensures, trades, c.len.ensures.value, c.len-2.ensures.value, c.len-3.ensures.value, to_z-of_z w64 (get_or c.args.figures.now.marks i (pos 0)) fits) refl)
    c.put_mark-at.ensures
