-- The figures of a trade and its security are within the table of bounds.
use Prim.Native.Nat.{◌≤◌, ◌-◌}
use native.Mathlib.Omega.{arith}
use mathlib.Core.Bool.{Bool, true, false}
use mathlib.Core.Path.{◌≡◌, refl}
use lib.Dec.{eqb}
use lib.IntN.{pos, nat_abs}
use Rattle.paper.specs.Units.{Day, Cents, Sign}
use Rattle.paper.specs.Valuation.{interest, revaluated, sign_of}
use Rattle.paper.specs.Bounds.{most_quote, most_interest, most_worth, most_mark}
use Rattle.paper.proofs.Bounds.{quote_most, interest_most, worth_most, sign_size, signed_size, mark_most}
use Rattle.tables.specs.declared.Security.{Security}
use Rattle.tables.specs.declared.Trade.{Trade}
use Rattle.valuation.specs.Valued.{Quoted, Ranged, trade_of, side_of, quote_on, interest_on, value_of}

-- Price with the coupon accrued on a day of the coupon period, hundred-thousandths of a percent
pub quote_within : (s : Security) (on : Day) → Quoted s on → quote_on s on ≤ most_quote
quote_within s on q =
    quote_most s.price s.coupon s.payments (on - s.previous) (s.next - s.previous) q.price q.coupon q.payments_low
    (omega arith)
    (omega arith)

-- Interest of a trade that is no cash trade, whole units
pub repo_interest : (t : Trade) → eqb t.trade 1 ≡ false
    → interest_on t ≡ interest (t.accrual - t.first) t.amount t.rate
repo_interest t e = rw (e, interest_on)

-- Interest of a trade, in size: whole units
pub interest_within : (t : Trade) → Ranged t → nat_abs (interest_on t) ≤ most_interest
interest_within t r = go (eqb t.trade 1) refl
  where
    go : (cash : Bool) → eqb t.trade 1 ≡ cash → nat_abs (interest_on t) ≤ most_interest
    go true e = rw (e, interest_on) (omega arith)
    go false e =
        rw (repo_interest t e)
        (interest_most (t.accrual - t.first) t.amount t.rate (r.days e) r.amount r.rate)

-- Revaluated amount of a trade in its security, cents, and its sign
abbrev pub worth_in : Trade → Security → Cents
worth_in t s = revaluated t.nominal (quote_on s t.accrual)

abbrev pub sign_in : Trade → Sign
sign_in t = sign_of (trade_of t.trade) (side_of t.side)

pub worth_within : (t : Trade) (s : Security) → Ranged t → Quoted s t.accrual → worth_in t s ≤ most_worth
worth_within t s r q = worth_most t.nominal (quote_on s t.accrual) r.nominal (quote_within s t.accrual q)

pub sign_one : (t : Trade) → nat_abs (sign_in t) ≡ 1
sign_one t = sign_size (trade_of t.trade) (side_of t.side)

-- What valuing a trade asks for
pub ruleset within = (quote_within, interest_within, worth_within, sign_one)

-- Both figures of a trade, margined or not, in size: cents
pub value_within : (t : Trade) (s : Security) → (t.margined ≡ true → Ranged t × Quoted s t.accrual)
    → (nat_abs (value_of t s).worth ≤ most_worth) × (nat_abs (value_of t s).mark ≤ most_mark)
value_within t s h = go t.margined refl
  where
    go : (m : Bool) → t.margined ≡ m → (nat_abs (value_of t s).worth ≤ most_worth) × (nat_abs (value_of t s).mark ≤ most_mark)
    go false e = rw (e, value_of) (omega arith, omega arith)
    go true e =
        let (r, q) = h e in
        let small = worth_within t s r q in
        rw (e, value_of) (
          rw (signed_size (pos (worth_in t s)) (sign_in t) (sign_one t)) small,
          (mark_most (worth_in t s) t.amount (interest_on t) (sign_in t) small r.amount (interest_within t r) (sign_one t)).mark,
        )
