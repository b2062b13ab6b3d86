-- The figures of one trade: the paper's, of what its row and its security's row carry in the code.
use Rattle.std.specs.Prelude.{ℕ, ◌+◌, ◌-◌, ◌≤◌, ◌<◌, true, false, ◌≡◌, eqb, pos, nat_abs, ◌*ℤ◌}
use Rattle.paper.specs.Units.{Day, Quote, SignedWhole}
use Rattle.paper.specs.Rows as paper
use Rattle.paper.specs.Rows.{repo, cash, seller, purchaser}
use Rattle.paper.specs.Valuation.{accrued, revaluated, interest, sign_of, mark_to_market}
use Rattle.paper.specs.Bounds.{most_interest_days}
use Rattle.tables.specs.declared.Security.{Security}
use Rattle.tables.specs.declared.Trade.{Trade}
use Rattle.valuation.specs.declared.Valued.{Valued}

-- A kind of trade by its number: 1 is cash
abbrev pub trade_of : ℕ → paper.Trade
trade_of n = elim (eqb n 1) [ true ↦ cash | false ↦ repo ]

-- A side by its number: 1 is the purchaser
abbrev pub side_of : ℕ → paper.Side
side_of n = elim (eqb n 1) [ true ↦ purchaser | false ↦ seller ]

-- Price with the coupon accrued on a day: hundred-thousandths of a percent
abbrev pub quote_on : Security → Day → Quote
quote_on s on = s.price + accrued s.coupon s.payments (on - s.previous) (s.next - s.previous)

-- Interest of a trade, whole units: cash has none, a repo's runs from its first day to its accrual day
abbrev pub interest_on : Trade → SignedWhole
interest_on t =
    elim (eqb t.trade 1) [
      | true ↦ pos 0
      | false ↦ interest (t.accrual - t.first) t.amount t.rate
    ]

-- The figures of a trade in its security, both in cents; 0 where it is not margined
abbrev pub value_of : Trade → Security → Valued
value_of t s =
    let worth = revaluated t.nominal (quote_on s t.accrual) in
    let sign = sign_of (trade_of t.trade) (side_of t.side) in
    elim t.margined [
      | false ↦ record { worth = pos 0; mark = pos 0 }
      | true ↦ record {
        worth = pos worth *ℤ sign;
        mark = mark_to_market worth t.amount (interest_on t) sign;
      }
    ]

-- The ranges of a security's row, and a day of its coupon period
pub record Quoted (s : Security) (on : Day) : Type 0 where
  pub price : s.price ≤ 20_000_000
  pub coupon : s.coupon ≤ 2_000_000
  pub payments_low : 1 ≤ s.payments
  pub payments_high : s.payments ≤ 4
  pub period : s.next - s.previous ≤ 400
  pub from : s.previous ≤ on
  pub until : on < s.next

-- The ranges of a trade's row; a repo has begun by its accrual day, and not too long before
pub record Ranged (t : Trade) : Type 0 where
  pub nominal : t.nominal ≤ 100_000_000
  pub amount : t.amount ≤ 30_000_000_000
  pub rate : nat_abs t.rate ≤ 200_000
  pub began : eqb t.trade 1 ≡ false → t.first ≤ t.accrual
  pub days : eqb t.trade 1 ≡ false → t.accrual - t.first ≤ most_interest_days
