-- The figures of a trade are within the table of bounds, each bound shown once. A signed figure is bound in its size, which is
-- what it is without its sign.
use Prim.Native.Nat.{◌+◌, ◌-◌, ◌*◌, ◌≤◌, ◌<◌}
use native.Mathlib.Nat.{le_trans, mul_comm, mul-one, mul-pos, mul-le-mul, mul-le-mul_left, le-mul_of_pos_right}
use native.Mathlib.Omega.{arith}
use mathlib.Core.Bool.{true, ◌&&◌}
use mathlib.Core.Option.{Option, none, some, get_or}
use mathlib.Core.Path.{◌≡◌, refl, ap, ◌∙◌}
use lib.Dec.{T, leb, ltb}
use lib.IntN.{ℤ, pos, nat_abs, ◌-ℤ◌, ◌*ℤ◌}
use Rattle.paper.specs.Units.{Line, Day, Days, Nominal, Quote, Payments, Rate, Sign, Cents, SignedWhole}
use Rattle.paper.specs.Days.{day, working_after}
use Rattle.paper.specs.Rows.{Trade, repo, cash, Side, seller, purchaser, SecurityRow, TradeRow}
use Rattle.paper.specs.Valuation.{last_day, margined, accrual_day, accrued, accrued_on, revaluated, interest, interest_of, sign_of, mark_to_market, Valued, valued}
use Rattle.paper.specs.Bounds.{most_accrual_product, most_accrual_divisor, most_quote, most_worth, most_worth_product, most_interest_days, most_interest, most_days_amount, most_interest_product, most_mark, most_line}
use Rattle.paper.proofs.Lists.{tests, holds}
use Rattle.paper.proofs.Days.{working_after_lem, working_within}
use Rattle.paper.proofs.Rounding.{nearest_at_most}
use Rattle.paper.proofs.Sizes.{size_difference, size_product, rounded_at_most}
use Rattle.paper.proofs.Rules.{SecurityFacts, TradeFacts}

-- ---- one trade

-- What is divided for the accrued coupon: hundred-thousandths of a percent × days
pub accrual_product_most : (coupon : Quote) (run : Days) → coupon ≤ 2_000_000 → run ≤ 400 → coupon * run ≤ most_accrual_product
accrual_product_most coupon run c r = mul-le-mul c r

-- What it is divided by is one day or more
pub accrual_divisor_low : (payments : Payments) (period : Days) → 1 ≤ payments → 1 ≤ period → 1 ≤ payments * period
accrual_divisor_low payments period p q = mul-pos p q

-- ... and at most 1,600 days
pub accrual_divisor_most : (payments : Payments) (period : Days) → payments ≤ 4 → period ≤ 400 → payments * period ≤ most_accrual_divisor
accrual_divisor_most payments period p q = mul-le-mul p q

-- Coupon accrued over no more than its period is at most the yearly coupon, hundred-thousandths of a percent
pub accrued_most : (coupon : Quote) (payments : Payments) (run period : Days)
    → 1 ≤ payments → 1 ≤ period → run ≤ period → accrued coupon payments run period ≤ coupon
accrued_most coupon payments run period p q r =
    nearest_at_most (coupon * run) coupon (payments * period) (mul-pos p q)
    (mul-le-mul_left coupon (le_trans r (rw (mul_comm payments period) (le-mul_of_pos_right period p))))

-- Price with coupon accrued over no more than its period, hundred-thousandths of a percent
pub quote_most : (price coupon : Quote) (payments : Payments) (run period : Days) → price ≤ 20_000_000 → coupon ≤ 2_000_000
    → 1 ≤ payments → 1 ≤ period → run ≤ period → price + accrued coupon payments run period ≤ most_quote
quote_most price coupon payments run period h c p q r = omega (arith, accrued_most coupon payments run period p q r)

-- Price of a security with the coupon accrued on a day before the next coupon date, hundred-thousandths of a percent
pub quote_on_most : (s : SecurityRow) → SecurityFacts s → (on : Day) → on < day s.next
    → s.price + accrued_on s on ≤ most_quote
quote_on_most s f on l =
    quote_most s.price s.coupon s.payments (on - day s.previous) (day s.next - day s.previous) f.price_high
    f.coupon
    f.payments_low
    f.period_low
    (go (day s.previous) (day s.next) l)
  where
    go : (previous next : Day) → on < next → on - previous ≤ next - previous
    go previous next l = omega arith

-- Nominal × price with accrued coupon, cents × 100,000
pub worth_product_most : (nominal : Nominal) (quote : Quote) → nominal ≤ 100_000_000 → quote ≤ most_quote
    → nominal * quote ≤ most_worth_product
worth_product_most nominal quote p q = mul-le-mul p q

-- Revaluated amount, cents
pub worth_most : (nominal : Nominal) (quote : Quote) → nominal ≤ 100_000_000 → quote ≤ most_quote
    → revaluated nominal quote ≤ most_worth
worth_most nominal quote p q =
    nearest_at_most (nominal * quote) most_worth 100_000 (omega arith) (worth_product_most nominal quote p q)

-- A margined repo has begun by the calculation day, and ends after it
pub repo_runs : (today : Day) (t : TradeRow) → t.trade ≡ repo → margined today t ≡ true
    → (day t.first ≤ today) × (today < last_day t)
repo_runs today t e m =
    let h : T (leb (day t.first) today && ltb today (last_day t)) = holds _ (rw (e, margined) at m) in
    search tests

-- The interest of a margined repo runs from its first day on, for at most 734 days
pub interest_days : (today : Day) (t : TradeRow) → TradeFacts t → t.trade ≡ repo → margined today t ≡ true
    → (day t.first ≤ working_after today) × (working_after today - day t.first ≤ most_interest_days)
interest_days today t f e m = go (day t.first) (last_day t) (repo_runs today t e m) (f.term e).1
  where
    go : (first last : Day) → (first ≤ today) × (today < last) → last - first ≤ 730
        → (first ≤ working_after today) × (working_after today - first ≤ most_interest_days)
    go first last r l = omega (arith, working_after_lem today, working_within today)

-- A rate is at most 200,000 ten-thousandths of a percent in size, and so is 0 where there is none
pub rate_most : (t : TradeRow) → TradeFacts t → nat_abs (get_or t.rate (pos 0)) ≤ 200_000
rate_most t f = go t.rate f.rate
  where
    go : (o : Option Rate) → ((r : Rate) → o ≡ some r → nat_abs r ≤ 200_000) → nat_abs (get_or o (pos 0)) ≤ 200_000
    go none h = omega arith
    go (some r) h = h r refl

-- Days × cents
pub days_amount_most : (days : Days) (amount : Cents) → days ≤ most_interest_days → amount ≤ 30_000_000_000
    → days * amount ≤ most_days_amount
days_amount_most days amount d a = mul-le-mul d a

-- Days × amount × rate, in size: whole units × 36,000,000,000
pub interest_product_most : (days : Days) (amount : Cents) (rate : Rate)
    → days ≤ most_interest_days → amount ≤ 30_000_000_000 → nat_abs rate ≤ 200_000
    → nat_abs (pos (days * amount) *ℤ rate) ≤ most_interest_product
interest_product_most days amount rate d a r =
    rw (size_product (pos (days * amount)) rate) (mul-le-mul (days_amount_most days amount d a) r)

-- Repo interest, in size: whole units
pub interest_most : (days : Days) (amount : Cents) (rate : Rate)
    → days ≤ most_interest_days → amount ≤ 30_000_000_000 → nat_abs rate ≤ 200_000
    → nat_abs (interest days amount rate) ≤ most_interest
interest_most days amount rate d a r =
    rounded_at_most (pos (days * amount) *ℤ rate) most_interest 36_000_000_000 (omega arith)
    (le_trans (interest_product_most days amount rate d a r) (omega arith))

-- Interest of a margined trade, in size: whole units
pub interest_of_most : (today : Day) (t : TradeRow) → TradeFacts t → margined today t ≡ true
    → nat_abs (interest_of today t) ≤ most_interest
interest_of_most today t f m = go t.trade refl
  where
    go : (trade : Trade) → t.trade ≡ trade → nat_abs (interest_of today t) ≤ most_interest
    go cash e = rw (e, interest_of) (omega arith)
    go repo e =
        rw (e, interest_of)
        (interest_most (working_after today - day t.first) t.amount (get_or t.rate (pos 0))
        (interest_days today t f e m).1
        f.amount_high
        (rate_most t f))

-- A trade's sign is 1 in size
pub sign_size : (trade : Trade) (side : Side) → nat_abs (sign_of trade side) ≡ 1
sign_size cash seller = refl
sign_size cash purchaser = refl
sign_size repo seller = refl
sign_size repo purchaser = refl

-- Such a sign leaves a size as it is
pub signed_size : (z : ℤ) (sign : Sign) → nat_abs sign ≡ 1 → nat_abs (z *ℤ sign) ≡ nat_abs z
signed_size z sign e = size_product z sign ∙ ap (λ n. nat_abs z * n) e ∙ mul-one (nat_abs z)

-- Mark-to-market, in size, with what is computed on the way to it: revaluated less traded amount, 100 × interest, and
-- the mark-to-market before its sign. All in cents
pub record MarkFacts (worth amount : Cents) (due : SignedWhole) (sign : Sign) : Type 0 where
  pub gain : nat_abs (pos worth -ℤ pos amount) ≤ 52_000_000_000
  pub hundredfold : nat_abs (pos 100 *ℤ due) ≤ 12_233_333_400
  pub unsigned : nat_abs (pos worth -ℤ pos amount -ℤ pos 100 *ℤ due) ≤ most_mark
  pub mark : nat_abs (mark_to_market worth amount due sign) ≤ most_mark

-- They hold of a trade within the bounds on its amounts and its interest
pub mark_most : (worth amount : Cents) (due : SignedWhole) (sign : Sign)
    → worth ≤ most_worth → amount ≤ 30_000_000_000 → nat_abs due ≤ most_interest → nat_abs sign ≡ 1
    → MarkFacts worth amount due sign
mark_most worth amount due sign w a d s =
    let gain = size_difference (pos worth) (pos amount) in
    let hundredfold = size_product (pos 100) due in
    let unsigned = size_difference (pos worth -ℤ pos amount) (pos 100 *ℤ due) in
    record {
      gain = omega arith;
      hundredfold = omega arith;
      unsigned = omega arith;
      mark = rw (signed_size (pos worth -ℤ pos amount -ℤ pos 100 *ℤ due) sign s) (omega arith);
    }

-- What holds of a margined trade: its line, its security's facts, and its two figures in size, both in cents
pub record ValuedFacts (v : Valued) : Type 0 where
  pub line : v.line ≤ most_line
  pub security : SecurityFacts v.security
  pub worth : nat_abs v.signed_worth ≤ most_worth
  pub mark : nat_abs v.mark ≤ most_mark

-- They hold of a margined trade whose accrual day is before the next coupon date
pub valued_facts : (today : Day) (at : Line) (t : TradeRow) (s : SecurityRow)
    → TradeFacts t → SecurityFacts s → margined today t ≡ true → accrual_day today t < day s.next → at ≤ most_line
    → ValuedFacts (valued today at t s)
valued_facts today at t s f g m l a =
    let quote = s.price + accrued_on s (accrual_day today t) in
    let worth = worth_most t.nominal quote f.nominal_high (quote_on_most s g (accrual_day today t) l) in
    let sign = sign_size t.trade t.side in
    record {
      line = a;
      security = g;
      worth = rw (signed_size (pos (revaluated t.nominal quote)) (sign_of t.trade t.side) sign) worth;
      mark =
          (mark_most (revaluated t.nominal quote) t.amount (interest_of today t) (sign_of t.trade t.side) worth
          f.amount_high
          (interest_of_most today t f m)
          sign).mark;
    }
