-- The sums of trades are within the table of bounds.
use Prim.Native.Nat.{ℕ, ◌≤◌}
use native.Mathlib.Nat.{le_trans, mul-le-mul_right}
use mathlib.Core.List.{List}
use mathlib.Core.Path.{refl}
use lib.IntN.{pos, nat_abs, ◌+ℤ◌}
use lib.ListN.{length, get_or}
use Rattle.paper.specs.Lists.{Each}
use Rattle.paper.specs.Bounds.{most_worth, most_mark, most_net_cents, most_mark_sum}
use Rattle.paper.proofs.Lists.{each_map}
use Rattle.paper.proofs.Sizes.{size_sum}
use Rattle.tables.specs.declared.Security.{Security}
use Rattle.tables.specs.declared.Tables.{Tables}
use Rattle.tables.specs.declared.Trade.{Trade}
use Rattle.valuation.proofs.Within.{value_within}
use Rattle.margin.specs.Sums.{security_in, value_in, sums_of, Placed}
use Rattle.margin.specs.Figures.{trade_sums, TablesRanged}
use Rattle.margin.proofs.Gathered.{gathered_most}

-- The sums of at most 500 trades, in size: the worths by security, and the marks by currency, in cents
module _ (ss : List Security) {ts : List Trade} (few : length ts ≤ 500) (placed : Each (Placed ss) ts) where
  pub worths_most : (k : ℕ) → nat_abs (get_or (sums_of ss ts).worths k (pos 0)) ≤ most_net_cents
  worths_most k =
      le_trans
      (gathered_most ◌+ℤ◌ (pos 0) 200 (λ t. t.security) (λ t. (value_in ss t).worth) nat_abs nat_abs refl size_sum most_worth
      (each_map (λ t p. (value_within t (security_in ss t) p.ranged).0) placed) k)
      (mul-le-mul_right {n = 500} most_worth few)

  pub totals_most : (k : ℕ) → nat_abs (get_or (sums_of ss ts).totals k (pos 0)) ≤ most_mark_sum
  totals_most k =
      le_trans
      (gathered_most ◌+ℤ◌ (pos 0) 8 (λ t. (security_in ss t).currency) (λ t. (value_in ss t).mark) nat_abs nat_abs refl size_sum most_mark
      (each_map (λ t p. (value_within t (security_in ss t) p.ranged).1) placed) k)
      (mul-le-mul_right {n = 500} most_mark few)

-- ... and so are those of tables
module _ (t : Tables) (ranged : TablesRanged t) (few : length t.trades.items ≤ 500) where
  pub table_worths_most : (k : ℕ) → nat_abs (get_or (trade_sums t).worths k (pos 0)) ≤ most_net_cents
  table_worths_most = worths_most t.securities.rows.items few ranged.trades

  pub table_totals_most : (k : ℕ) → nat_abs (get_or (trade_sums t).totals k (pos 0)) ≤ most_mark_sum
  table_totals_most = totals_most t.securities.rows.items few ranged.trades
