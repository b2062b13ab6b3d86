-- `securities::security_section` meets its contract. The loop's invariant: the tables have the rows above, and the section goes on
-- from `at` with what they tell. The measure is the bytes left up to `end`.
use Prim.Native.Nat.{ℕ}
use native.Mathlib.Omega.{arith}
use mathlib.Core.Path.{◌≡◌, refl, sym, ap, ◌∙◌}
use Rattle.std.proofs.Common.{Result}
use lib.ListN.{length}
use Rattle.tables.specs.Ranks.{ranked_of}
use Rattle.sections.proofs.Rooms.{turn_start, judging_refused, judging_row, judging_broken, judging_ended}
use Rattle.securities.proofs.Turns.{room, rule_of, judge, turn_judged, turn_small, turn_class, turn_room, turn_known, turn_new, turn_more, turn_table}
use Rattle.securities.specs.Ranks.{with_rank}
use Rattle.securities.proofs.security_section.Goals as goal
use Rattle.securities.proofs.security_section.Goals.{in-Err, in_default-standing}
use mathlib.Core.List.{List}
use Rattle.arrayvec.specs.ArrayVec.{ArrayVec}

-- Where a number stands among numbers, by what was found of a slice of them
stands : {numbers items : List ℕ} {found place : Result ℕ ℕ} (own : ℕ) → numbers ≡ items → found ≡ ranked_of numbers own → found ≡ place → ranked_of items own ≡ place
stands own same found is = ap (λ (ns : List ℕ). ranked_of ns own) (sym same) ∙ sym found ∙ is

pub loop-last-init : goal.loop-last-init
loop-last-init c =
    rw (c.new-table.ensures, c.new-money.ensures)
    (record { turn = turn_start (room _) c.args.s.now c.args.from c.args.first (omega arith); seen_is = refl })

pub returns-in_default : goal.returns-in_default
returns-in_default c =
    judging_refused (judge c.args.classes.now.items) c.loop-last.invariant c.requires.1 c.goes_on.ensures c.loop-last-test.true c.security_row-read.ensures c.unwrap_err.ensures
    c.len-count.ensures.value

pub returns-in_default-judged : goal.returns-in_default-judged
returns-in_default-judged c =
    let cs = c.args.classes.now.items in
    let r = judging_row (judge cs) c.loop-last.invariant c.requires.1 c.goes_on.ensures c.loop-last-test.true c.security_row-read.ensures c.in-Ok.is in
    let judged = turn_judged cs c.loop-last.invariant c.in-Ok.row c.as_slice.ensures.value c.as_slice-in-loop-last.ensures.value c.ranked-standing.ensures c.is_ok.ensures.value c.class_of-class.ensures c.judged-judged.ensures in
    judging_broken (judge cs) c.loop-last.invariant r refl (ap rule_of (sym judged)) (ap rule_of c.unwrap_err-in_default-judged.ensures) c.len-count.ensures.value

pub security_of-requires : goal.security_of-requires
security_of-requires c =
    let cs = c.args.classes.now.items in
    let r = judging_row (judge cs) c.loop-last.invariant c.requires.1 c.goes_on.ensures c.loop-last-test.true c.security_row-read.ensures c.in-Ok.is in
    let judged = turn_judged cs c.loop-last.invariant c.in-Ok.row c.as_slice.ensures.value c.as_slice-in-loop-last.ensures.value c.ranked-standing.ensures c.is_ok.ensures.value c.class_of-class.ensures c.judged-judged.ensures in
    let ok = judged ∙ c.in-Ok-judged.is in
    (turn_small cs c.loop-last.invariant r ok, turn_class cs c.loop-last.invariant r ok c.requires.2)

pub loop-last-smaller : goal.loop-last-smaller
loop-last-smaller c =
    let r = judging_row (judge c.args.classes.now.items) c.loop-last.invariant c.requires.1 c.goes_on.ensures c.loop-last-test.true c.security_row-read.ensures c.in-Ok.is in
    omega (arith, r.further, c.requires.1)

pub inserted-table-requires : goal.inserted-table-requires
inserted-table-requires c =
    let cs = c.args.classes.now.items in
    let r = judging_row (judge cs) c.loop-last.invariant c.requires.1 c.goes_on.ensures c.loop-last-test.true c.security_row-read.ensures c.in-Ok.is in
    let judged = turn_judged cs c.loop-last.invariant c.in-Ok.row c.as_slice.ensures.value c.as_slice-in-loop-last.ensures.value c.ranked-standing.ensures c.is_ok.ensures.value c.class_of-class.ensures c.judged-judged.ensures in
    let ok = judged ∙ c.in-Ok-judged.is in
    (turn_room cs c.loop-last.invariant r ok (stands _ c.as_slice.ensures.value c.ranked-standing.ensures c.in-Err.is)).1

pub loop-last-preserved : goal.loop-last-preserved
loop-last-preserved c =
    let cs = c.args.classes.now.items in
    let r = judging_row (judge cs) c.loop-last.invariant c.requires.1 c.goes_on.ensures c.loop-last-test.true c.security_row-read.ensures c.in-Ok.is in
    let judged = turn_judged cs c.loop-last.invariant c.in-Ok.row c.as_slice.ensures.value c.as_slice-in-loop-last.ensures.value c.ranked-standing.ensures c.is_ok.ensures.value c.class_of-class.ensures c.judged-judged.ensures in
    let ok = judged ∙ c.in-Ok-judged.is in
    elim c.match-standing.branch [
      | in-Err w ↦
          rw (c.push.ensures.items, c.push-in-loop-last.ensures.items, w.table-is, c.security_of.ensures, c.len-count.ensures.value)
          (turn_more cs c.loop-last.invariant r ok
          (ap (λ (t : ArrayVec ℕ). t.items) w.inserted-table.ensures ∙ turn_new cs c.loop-last.invariant r ok (stands _ c.as_slice.ensures.value c.ranked-standing.ensures w.in-Err.is)))
      | in_default-standing w ↦
          rw (c.push.ensures.items, c.push-in-loop-last.ensures.items, w.table-is, c.security_of.ensures, c.len-count.ensures.value)
          (turn_more cs c.loop-last.invariant r ok
          (turn_known cs c.loop-last.invariant r ok (stands _ c.as_slice.ensures.value c.ranked-standing.ensures w.in_default-standing.is)))
    ]

pub returns : goal.returns
returns c =
    let cs = c.args.classes.now.items in
    let table = c.loop-last.table in
    let ranks : c.with_ranks.new.rows.items ≡ with_rank table.currencies.items c.loop-last.money.items table.rows.items =
    c.with_ranks.ensures ∙ (λ i. with_rank (c.as_slice-3.ensures.value i) (c.as_slice-2.ensures.value i) table.rows.items) in
    judging_ended (judge cs) c.loop-last.invariant c.requires.1 c.goes_on.ensures c.loop-last-test.false
    ((λ i. record { rows = record { items = ranks i }; codes = table.codes; currencies = table.currencies }) ∙ turn_table cs c.loop-last.invariant)
