-- A T row judged by the securities' table, and what the table of trades keeps of it.
use Rattle.std.specs.Prelude.{ℕ, ◌≤◌, ◌<◌, Bool, true, false, cond, not, ◌&&◌, ◌||◌, eqb, leb, ltb, get_or, length, take, Some, None, Result, Ok, Err}
use Rattle.std.proofs.Math.Option.{Option, none, some}
use Rattle.paper.specs.Units.{Day, Code}
use Rattle.paper.specs.Text.{is_code}
use Rattle.paper.specs.Refusals.{Period}
use Rattle.tables.specs.Numbers.{code_number, number_place}
use Rattle.answers.specs.declared.Refusal.{Refusal}
use Rattle.answers.specs.declared.Refusal.TheVariants.{Count, Missing}
use Rattle.answers.specs.declared.Refusal.TheVariants as refusals
use Rattle.tables.specs.Blanks.{no_security}
use Rattle.tables.specs.Ranks.{found_place}
use Rattle.tables.specs.declared.Security.{Security}
use Rattle.tables.specs.declared.Securities.{Securities}
use Rattle.tables.specs.declared.Trade.{Trade}
use Rattle.trades.specs.declared.TradeRow.{TradeRow}

-- The coupon period of a security
abbrev pub period_of : Security → Period
period_of s = record { previous = s.previous; next = s.next }

-- The coupon period that a code has in a table, where it is one of the table's
abbrev pub period_in : Securities → Code → Option Period
period_in t c =
    let count = length t.rows.items in
    let place = number_place (take count t.codes) (code_number c) in
    cond (is_code c && ltb place count) (some (period_of (get_or t.rows.items place no_security))) none

-- Whether a trade is margined on a calculation day, by its first and last day (01, "Selection")
abbrev pub margined_on : Bool → Day → Day → Day → Bool
margined_on cash today first last = cond cash (ltb today first) (leb first today && ltb today last)

-- Whether an accrual day is in the coupon period of its security, as a margined trade asks
abbrev pub period_holds : Bool → Day → Security → Bool
period_holds margined on s = not margined || (leb s.previous on && ltb on s.next)

-- The ranges of a row's numbers
pub record Small (t : TradeRow) : Type 0 where
  pub nominal : t.terms.nominal ≤ 100_000_000
  pub first : t.first < 146_097
  pub trade : t.terms.trade ≤ 1
  pub side : t.terms.side ≤ 1

-- What the table keeps of a row, with the place of its security
abbrev pub trade_of : TradeRow → ℕ → Bool → Day → Trade
trade_of t security margined accrual =
    record {
      amount = t.terms.amount;
      rate = t.terms.rate;
      nominal = t.terms.nominal;
      first = t.first;
      accrual = accrual;
      security = security;
      trade = t.terms.trade;
      side = t.terms.side;
      margined = margined;
    }

-- The same with so many rows above it, or the rule that it breaks: 8 fewer than 500 above; 10 its security is there; 12 its accrual
-- day is in the coupon period
abbrev pub judged_of : Day → Day → Securities → ℕ → TradeRow → Result Trade Refusal
judged_of today working securities count t =
    let margined = margined_on (eqb t.terms.trade 1) today t.first t.last in
    let accrual = cond (eqb t.terms.trade 1) t.first working in
    elim (ltb count 500) [
      | false ↦ Err Count
      | true ↦ elim (found_place (take (length securities.rows.items) securities.codes) t.terms.number) [
        | None ↦ Err Missing
        | Some place ↦ elim (period_holds margined accrual (get_or securities.rows.items place no_security)) [
          | false ↦ Err refusals.Period
          | true ↦ Ok (trade_of t place margined accrual)
        ]
      ]
    ]
