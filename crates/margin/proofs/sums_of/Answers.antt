-- `margin::sums_of` meets its contract: the trade of a turn is placed, and its figures fit the sums of those behind it.
use Prim.Native.Nat.{ℕ, ◌+◌, ◌-◌, ◌≤◌, ◌<◌, ◌^◌}
use native.Mathlib.Omega.{arith}
use mathlib.Core.List.{List}
use mathlib.Core.Path.{◌≡◌, ap, ◌∙◌}
use lib.IntN.{ℤ, pos, nat_abs, ◌+ℤ◌}
use lib.ListN.{length, get_or, drop, length-drop}
use lib.Seq.{drop-length}
use mir.Syntax.{w64}
use mir.Val.{to_z, of_z}
use Rattle.paper.specs.Lists.{Each}
use Rattle.paper.specs.Bounds.{most_mark, most_net_cents, most_mark_sum}
use Rattle.paper.proofs.Lists.{each_at}
use Rattle.whole.proofs.Signs.{read_back}
use Rattle.tables.specs.Blanks.{no_trade}
use Rattle.tables.specs.declared.Security.{Security}
use Rattle.tables.specs.declared.Trade.{Trade}
use Rattle.valuation.specs.Valued.{value_of}
use Rattle.valuation.specs.declared.Valued.{Valued}
use Rattle.valuation.proofs.Within.{value_within}
use Rattle.margin.specs.Sums.{security_in, value_in, sums_of, Placed}
use Rattle.margin.proofs.Backwards.{each_drop, drop_before, made_none, made_more, made_all}
use Rattle.margin.proofs.Values.{worths_most, totals_most}
use Rattle.margin.proofs.Gathered.{gathered_length, gathered_more}
use Rattle.margin.proofs.sums_of.Goals as goal

-- A figure of a trade, in cents, that is within the table of bounds
module _ (figure : Valued → ℤ) {v w : Valued} (e : v ≡ w) (small : nat_abs (figure w) ≤ most_mark) where
  -- It is read from a local as it is
  figure_is : to_z w64 (of_z w64 (figure v)) ≡ figure w
  figure_is = read_back (figure w) (ap figure e) (omega (arith, small))

  -- It can be added to a sum that is there and within the table too
  figure_adds : {sums so_far : List ℤ} → sums ≡ so_far → (place : ℕ) → place < length so_far → nat_abs (get_or so_far place (pos 0)) ≤ most_mark_sum
      → (place < length sums) × (nat_abs (to_z w64 (of_z w64 (figure v))) + nat_abs (get_or sums place (pos 0)) < 2 ^ 63)
  figure_adds s place there low = rw (s, figure_is) (there, omega (arith, small, low))

module _ (ss : List Security) {ts : List Trade} (most : length ts ≤ 500) (each : Each (Placed ss) ts) (i : ℕ) where
  few : length (drop i ts) ≤ 500
  few = omega (arith, length-drop i ts)

  -- The sums of the trades from one on have their places and are within the table of bounds, in size: cents
  worths_fit : (k : ℕ) → (length (sums_of ss (drop i ts)).worths ≡ 200) × (nat_abs (get_or (sums_of ss (drop i ts)).worths k (pos 0)) ≤ most_net_cents)
  worths_fit k = (gathered_length ◌+ℤ◌ (pos 0) 200 _ _ (drop i ts), worths_most ss few (each_drop i each) k)

  totals_fit : (k : ℕ) → (length (sums_of ss (drop i ts)).totals ≡ 8) × (nat_abs (get_or (sums_of ss (drop i ts)).totals k (pos 0)) ≤ most_mark_sum)
  totals_fit k = (gathered_length ◌+ℤ◌ (pos 0) 8 _ _ (drop i ts), totals_most ss few (each_drop i each) k)

  module _ (low : 0 < i) (high : i ≤ length ts) where
    -- The trade of a turn has its security and currency in their places
    placed : Placed ss (get_or ts (i - 1) no_trade)
    placed = each_at (i - 1) no_trade each (omega arith)

    -- Its figures are within the table of bounds: cents
    within : let v = value_in ss (get_or ts (i - 1) no_trade) in (nat_abs v.worth ≤ most_mark) × (nat_abs v.mark ≤ most_mark)
    within =
        let both = value_within (get_or ts (i - 1) no_trade) (security_in ss (get_or ts (i - 1) no_trade)) placed.ranged in
        (omega (arith, both.0), both.1)

pub loop-i-init : goal.loop-i-init
loop-i-init c =
    let none = drop-length c.args.trades.now in
    record {
      marks = made_none (λ t. (value_in c.args.securities.now.items t).mark) c.args.trades.now no_trade 500 (pos 0) c.requires.0;
      worths = rw none;
      totals = rw none;
    }

pub value_of-valued-requires : goal.value_of-valued-requires
value_of-valued-requires c =
    let ss = c.args.securities.now.items in
    let l = c.loop-i in
    let security = c.at-security.ensures in
    rw security (placed ss c.requires.0 c.requires.1 l.i c.loop-i-test.true l.auto.i).ranged

pub add_to-requires : goal.add_to-requires
add_to-requires c =
    let ss = c.args.securities.now.items in
    let l = c.loop-i in
    let own = placed ss c.requires.0 c.requires.1 l.i c.loop-i-test.true l.auto.i in
    let small = within ss c.requires.0 c.requires.1 l.i c.loop-i-test.true l.auto.i in
    let fit = worths_fit ss c.requires.0 c.requires.1 l.i (get_or c.args.trades.now (l.i - 1) no_trade).security in
    let security = c.at-security.ensures in
    figure_adds (λ v. v.worth) (c.value_of-valued.ensures ∙ ap (value_of (get_or c.args.trades.now (l.i - 1) no_trade)) security) small.0 l.invariant.worths _ (omega (arith, own.security, fit.0)) (omega (arith, fit.1))

pub add_to-requires-in-loop-i : goal.add_to-requires-in-loop-i
add_to-requires-in-loop-i c =
    let ss = c.args.securities.now.items in
    let l = c.loop-i in
    let own = placed ss c.requires.0 c.requires.1 l.i c.loop-i-test.true l.auto.i in
    let small = within ss c.requires.0 c.requires.1 l.i c.loop-i-test.true l.auto.i in
    let fit = totals_fit ss c.requires.0 c.requires.1 l.i (security_in ss (get_or c.args.trades.now (l.i - 1) no_trade)).currency in
    let security = c.at-security.ensures in
    rw security (figure_adds (λ v. v.mark) (c.value_of-valued.ensures ∙ ap (value_of (get_or c.args.trades.now (l.i - 1) no_trade)) security) small.1 l.invariant.totals _ (omega (arith, own.currency, fit.0)) (omega (arith, fit.1)))

pub loop-i-preserved : goal.loop-i-preserved
loop-i-preserved c =
    let ts = c.args.trades.now in
    let ss = c.args.securities.now.items in
    let l = c.loop-i in
    let low = c.loop-i-test.true in
    let own = get_or ts (l.i - 1) no_trade in
    let small = within ss c.requires.0 c.requires.1 l.i low l.auto.i in
    let security = c.at-security.ensures in
    let value = c.value_of-valued.ensures ∙ ap (value_of own) security in
    let worth = figure_is (λ v. v.worth) value small.0 in
    let mark = figure_is (λ v. v.mark) value small.1 in
    let front = drop_before ts l.i no_trade low l.auto.i in
    record {
      marks = made_more (λ t. (value_in ss t).mark) ts no_trade 500 (pos 0) c.requires.0 l.i l.sums.marks _ l.invariant.marks low l.auto.i mark;
      worths = c.add_to.ensures ∙ gathered_more ◌+ℤ◌ (pos 0) 200 _ _ own l.invariant.worths worth front;
      totals = c.add_to-in-loop-i.ensures ∙ rw security (gathered_more ◌+ℤ◌ (pos 0) 8 _ _ own l.invariant.totals mark front);
    }

pub returns : goal.returns
returns c =
    let ts = c.args.trades.now in
    let ss = c.args.securities.now.items in
    let l = c.loop-i in
    let none : l.i ≡ 0 = omega arith in
    let marks = l.invariant.marks ∙ made_all (λ t. (value_in ss t).mark) ts no_trade 500 (pos 0) c.requires.0 l.i none in
    let worths = l.invariant.worths ∙ ap (λ (i : ℕ). (sums_of ss (drop i ts)).worths) none in
    let totals = l.invariant.totals ∙ ap (λ (i : ℕ). (sums_of ss (drop i ts)).totals) none in
    λ i. record { marks = marks i; worths = worths i; totals = totals i }
