-- What the rules of a row say, as facts: one record for each kind of row, and what then holds of a whole table.
use Prim.Native.Nat.{ℕ, ◌+◌, ◌-◌, ◌≤◌, ◌<◌}
use native.Mathlib.Omega.{arith}
use mathlib.Core.Bool.{Bool, true, false, not, ◌&&◌, ◌||◌}
use mathlib.Core.List.{List, [], ◌∷◌, reverse_aux}
use mathlib.Core.Option.{Option, none, some, get_or}
use mathlib.Core.Path.{◌≡◌, refl, ◌∙◌}
use borrow.Author.Tests.{eqb-true}
use lib.Dec.{T, eqb, leb, ltb, leb→le, eqb→eq}
use lib.IntN.{nat_abs}
use lib.ListN.{length, take}
use Rattle.paper.specs.Units.{Date, Day, Class, Code, Duration, Payments, Rate}
use Rattle.paper.specs.Days.{is_day, day}
use Rattle.paper.specs.Lists.{every, first_that, given, Each, nil, cons, InOrder, ended, ahead}
use Rattle.paper.specs.Text.{same, before, is_code, is_currency}
use Rattle.paper.specs.Rows.{Kind, Trade, repo, cash, ClassRow, PriorityRow, SecurityRow, TradeRow}
use Rattle.paper.specs.Valuation.{last_day, margined, accrual_day, security_of}
use Rattle.paper.specs.Refusals.{RowKind, has_class, rules_of, Period, period_of, is_duration, is_term, trade_dates, in_period, date_kind, class_kind, priority_kind, security_kind, trade_kind}
use Rattle.paper.specs.Bounds.{PriorityFacts}
use Rattle.paper.specs.Tables.{hold, hold_down}
use Rattle.paper.proofs.Lists.{passes, holds, right, otherwise, tests, given_some, every_cons, first_passes, each_first, each_rest, each_map, each_found, first_behind}
use Rattle.paper.proofs.Order.{same_refl, before_trans, before_not_same}

-- A border or a duration that is there is 1 to 1,000,000 ten-thousandths of a year
duration_facts : (kind : Kind) (o : Option Duration) → T (is_duration kind o)
    → (d : Duration) → o ≡ some d → (1 ≤ d) × (d ≤ 1_000_000)
duration_facts kind none h d e = let z : ◌≡◌ {A = ℕ} 0 1 = cc in absurd (omega arith)
duration_facts kind (some x) h d e = let s : x ≡ d = cc in rw s at (go x h)
  where
    go : (x : Duration) → T (is_duration kind (some x)) → (1 ≤ x) × (x ≤ 1_000_000)
    go x h = search tests

-- What the D row's rules say: a real day, and the last one that a calculation may be for
pub record DateFacts (d : Date) : Type 0 where
  pub real : is_day d ≡ true
  pub high : d ≤ 23_991_220

pub date_facts : (d : Date) → T (hold (rules_of date_kind [] d)) → DateFacts d
date_facts d h = search tests

-- What a C row's rules say of its fields. Border: ten-thousandths of a year; deposit factor: ten-thousandths
pub record ClassFacts (c : ClassRow) : Type 0 where
  pub low : 1 ≤ c.class
  pub high : c.class ≤ 40
  pub border : (d : Duration) → c.border ≡ some d → (1 ≤ d) × (d ≤ 1_000_000)
  pub deposit : c.deposit ≤ 10_000

pub class_facts : (above : List ClassRow) (c : ClassRow) → T (hold (rules_of class_kind above c)) → ClassFacts c
class_facts above c h = search (tests, duration_facts c.kind c.border)

-- What an O row's rules say of its fields
pub priority_facts : (cs : List ClassRow) (above : List PriorityRow) (o : PriorityRow)
    → T (hold (rules_of (priority_kind cs) above o)) → PriorityFacts o
priority_facts cs above o h = search tests

-- Payments a year that are 1, 2 or 4 are 1 to 4
payments_facts : (n : Payments) → T (eqb n 1 || eqb n 2 || eqb n 4) → (1 ≤ n) × (n ≤ 4)
payments_facts n h = go (eqb n 1) refl (eqb n 2) refl h
  where
    go : (a : Bool) → eqb n 1 ≡ a → (b : Bool) → eqb n 2 ≡ b → T (a || b || eqb n 4) → (1 ≤ n) × (n ≤ 4)
    go true e b k h = omega (arith, eqb→eq n 1 (holds (eqb n 1) e))
    go false e true k h = omega (arith, eqb→eq n 2 (holds (eqb n 2) k))
    go false e false k h = omega (arith, eqb→eq n 4 h)

-- What an S row's rules say of its fields. Duration: ten-thousandths of a year; price and yearly coupon:
-- hundred-thousandths of a percent; the coupon period: days
pub record SecurityFacts (s : SecurityRow) : Type 0 where
  pub code : is_code s.code ≡ true
  pub currency : is_currency s.currency ≡ true
  pub duration : (d : Duration) → s.duration ≡ some d → (1 ≤ d) × (d ≤ 1_000_000)
  pub price_low : 1 ≤ s.price
  pub price_high : s.price ≤ 20_000_000
  pub coupon : s.coupon ≤ 2_000_000
  pub payments_low : 1 ≤ s.payments
  pub payments_high : s.payments ≤ 4
  pub previous : is_day s.previous ≡ true
  pub next : is_day s.next ≡ true
  pub period_low : 1 ≤ day s.next - day s.previous
  pub period_high : day s.next - day s.previous ≤ 400

pub security_facts : (cs : List ClassRow) (above : List SecurityRow) (s : SecurityRow)
    → T (hold (rules_of (security_kind cs) above s)) → SecurityFacts s
security_facts cs above s h =
    let payments = payments_facts s.payments (search tests) in
    record {
      code = search tests;
      currency = search tests depth 8;
      duration = search (tests, duration_facts s.kind s.duration);
      price_low = search tests;
      price_high = search tests;
      coupon = search tests;
      payments_low = payments.0;
      payments_high = payments.1;
      previous = search tests;
      next = search tests;
      period_low = search tests;
      period_high = search tests;
    }

-- A rate that is there is at most 200,000 ten-thousandths of a percent in size
rate_facts : (trade : Trade) (last : Option Date) (rate : Option Rate) → T (is_term trade last rate)
    → (r : Rate) → rate ≡ some r → nat_abs r ≤ 200_000
rate_facts cash last none h r e = let z : ◌≡◌ {A = ℕ} 0 1 = cc in absurd (omega arith)
rate_facts cash last (some x) h r e = absurd (right (not (given last)) false h)
rate_facts repo last none h r e = absurd h
rate_facts repo last (some x) h r e = let s : x ≡ r = cc in rw s at (leb→le (nat_abs x) 200_000 h)

-- A first date is a day
first_facts : (trade : Trade) (first : Date) (last : Option Date) → T (trade_dates trade first last) → is_day first ≡ true
first_facts cash first last h = passes (is_day first) h
first_facts repo first none h = absurd h
first_facts repo first (some x) h = search tests

-- A last date that is there is a day
last_facts : (trade : Trade) (first : Date) (last : Option Date) (rate : Option Rate)
    → T (is_term trade last rate) → T (trade_dates trade first last)
    → (d : Date) → last ≡ some d → is_day d ≡ true
last_facts cash first none rate f h d e = let z : ◌≡◌ {A = ℕ} 0 1 = cc in absurd (omega arith)
last_facts cash first (some x) rate f h d e = absurd f
last_facts repo first none rate f h d e = absurd h
last_facts repo first (some x) rate f h d e = let s : x ≡ d = cc in rw s at (go x h)
  where
    go : (x : Date) → T (trade_dates repo first (some x)) → is_day x ≡ true
    go x h = search tests

-- A repo's last day is 1 to 730 days after its first
term_facts : (trade : Trade) (first : Date) (last : Option Date) → T (trade_dates trade first last) → trade ≡ repo
    → (1 ≤ day (get_or last 0) - day first) × (day (get_or last 0) - day first ≤ 730)
term_facts cash first last h e = let z : ◌≡◌ {A = ℕ} 0 1 = cc in absurd (omega arith)
term_facts repo first none h e = absurd h
term_facts repo first (some x) h e = search tests

-- What a T row's rules say of its fields. Nominal: whole units; amount: cents; rate: ten-thousandths of a percent;
-- the term of a repo: days
pub record TradeFacts (t : TradeRow) : Type 0 where
  pub code : is_code t.code ≡ true
  pub nominal_low : 1 ≤ t.nominal
  pub nominal_high : t.nominal ≤ 100_000_000
  pub amount_low : 1 ≤ t.amount
  pub amount_high : t.amount ≤ 30_000_000_000
  pub rate : (r : Rate) → t.rate ≡ some r → nat_abs r ≤ 200_000
  pub first : is_day t.first ≡ true
  pub last : (d : Date) → t.last ≡ some d → is_day d ≡ true
  pub term : t.trade ≡ repo → (1 ≤ last_day t - day t.first) × (last_day t - day t.first ≤ 730)

pub trade_facts : (today : Day) (periods : Code → Option Period) (above : List TradeRow) (t : TradeRow)
    → T (hold (rules_of (trade_kind today periods) above t)) → TradeFacts t
trade_facts today periods above t h =
    let form : T (is_term t.trade t.last t.rate) = search tests in
    let dates : T (trade_dates t.trade t.first t.last) = search tests in
    record {
      code = search tests;
      nominal_low = search tests;
      nominal_high = search tests;
      amount_low = search tests;
      amount_high = search tests;
      rate = rate_facts t.trade t.last t.rate form;
      first = first_facts t.trade t.first t.last dates;
      last = last_facts t.trade t.first t.last t.rate form dates;
      term = term_facts t.trade t.first t.last dates;
    }

-- The accrual day of a margined trade is at or after the previous coupon date and before the next
pub in_period_lem : (today : Day) (ss : List SecurityRow) (above : List TradeRow) (t : TradeRow)
    → T (hold (rules_of (trade_kind today (period_of ss)) above t))
    → (s : SecurityRow) → security_of ss t.code ≡ some s → margined today t ≡ true
    → (day s.previous ≤ accrual_day today t) × (accrual_day today t < day s.next)
in_period_lem today ss above t h s e m =
    let period : T (in_period today t (period_of ss t.code)) = search tests in
    let on = otherwise (margined today t) (within (accrual_day today t)) m (rw e at period) in
    search tests
  where
    within : Day → Bool
    within on = leb (day s.previous) on && ltb on (day s.next)

-- What the rules say of a row is so of each row of a table for which they hold
pub each_holds : {R : Type 0} (kind : RowKind R) (P : R → Type 0)
    → ((above : List R) (r : R) → T (hold (rules_of kind above r)) → P r)
    → (above rs : List R) → T (hold_down kind above rs) → Each P rs
each_holds kind P facts above [] h = nil
each_holds kind P facts above (r ∷ rs) h =
    cons (facts above r (search tests)) (each_holds kind P facts (r ∷ above) rs (search tests))

-- A class that has a C row is one of 1 to 40
pub class_range : (cs : List ClassRow) (n : Class) → Each ClassFacts cs → has_class cs n ≡ true → (1 ≤ n) × (n ≤ 40)
class_range cs n facts has =
    let (row, found) = given_some (first_that (λ c. eqb c.class n) cs) has in
    let f = each_found (λ c. eqb c.class n) cs facts row found in
    let own : row.class ≡ n = eqb-true row.class n (first_passes (λ c. eqb c.class n) cs row found) in
    (omega arith, omega arith)

-- What comes behind the nearest of S rows that rise comes behind them all
abbrev Rise : List SecurityRow → Type 0
Rise above =
    (c : Code) → every (λ a. before a.code c) (take 1 above) ≡ true → Each (λ a. before a.code c ≡ true) above

-- An S row whose rules hold goes on so
rise_on : (cs : List ClassRow) (above : List SecurityRow) (s : SecurityRow) → T (hold (rules_of (security_kind cs) above s))
    → Rise above → Rise (s ∷ above)
rise_on cs above s h rise c e =
    let last : before s.code c ≡ true = (every_cons (λ a. before a.code c) s [] e).0 in
    cons last (each_map (λ a k. before_trans a.code s.code c k last) (rise s.code (search tests)))

-- So each S row of a table for which the rules hold comes behind those above it
above_before : (cs : List ClassRow) (above ss : List SecurityRow) → T (hold_down (security_kind cs) above ss) → Rise above
    → Each (λ s. Each (λ a. before a.code s.code ≡ true) above) ss
above_before cs above [] h rise = nil
above_before cs above (s ∷ ss) h rise =
    cons (rise s.code (search tests))
    (each_map (λ b before_it. each_rest before_it) (above_before cs (s ∷ above) ss (search tests) (rise_on cs above s (search tests) rise)))

-- ... and the codes rise
codes_order : (cs : List ClassRow) (above ss : List SecurityRow) → T (hold_down (security_kind cs) above ss) → Rise above
    → InOrder (λ a b. before a.code b.code) ss
codes_order cs above [] h rise = ended
codes_order cs above (s ∷ ss) h rise =
    let on = rise_on cs above s (search tests) rise in
    ahead (each_map (λ b before_it. each_first before_it) (above_before cs (s ∷ above) ss (search tests) on)) (codes_order cs (s ∷ above) ss (search tests) on)

pub security_order : (cs : List ClassRow) (ss : List SecurityRow) → T (hold_down (security_kind cs) [] ss) → InOrder (λ a b. before a.code b.code) ss
security_order cs ss h = codes_order cs [] ss h (λ c e. nil)

-- Behind rows that come before it, the nearest first, an S row is the one with its code
own_code : (above ss : List SecurityRow) (s : SecurityRow) → Each (λ a. before a.code s.code ≡ true) above
    → security_of (reverse_aux above (s ∷ ss)) s.code ≡ some s
own_code above ss s behind =
    first_behind (λ a. same a.code s.code) above (s ∷ ss) (each_map (λ a k. before_not_same a.code s.code k) behind)
    ∙ rw (same_refl s.code, first_that)

-- So is each of a table for which the rules hold
codes_own : (cs : List ClassRow) (above ss : List SecurityRow) → T (hold_down (security_kind cs) above ss) → Rise above
    → Each (λ s. security_of (reverse_aux above ss) s.code ≡ some s) ss
codes_own cs above [] h rise = nil
codes_own cs above (s ∷ ss) h rise =
    cons (own_code above ss s (rise s.code (search tests)))
    (codes_own cs (s ∷ above) ss (search tests) (rise_on cs above s (search tests) rise))

-- ... and so is each of admitted tables
pub each_code : (cs : List ClassRow) (ss : List SecurityRow) → T (hold_down (security_kind cs) [] ss)
    → Each (λ s. security_of ss s.code ≡ some s) ss
each_code cs ss h = codes_own cs [] ss h (λ c e. nil)

-- Where each row has fewer than so many above it, a table has no more than so many
pub at_most : {R : Type 0} (kind : RowKind R) (most : ℕ)
    → ((above : List R) (r : R) → T (hold (rules_of kind above r)) → length above < most)
    → (above rs : List R) → length above ≤ most → T (hold_down kind above rs) → length above + length rs ≤ most
at_most kind most few above [] l h = omega arith
at_most kind most few above (r ∷ rs) l h =
    omega (arith, at_most kind most few (r ∷ above) rs (few above r (search tests)) (search tests))

-- A sheet has at most 40 classes
pub classes_at_most : (cs : List ClassRow) → T (hold_down class_kind [] cs) → length cs ≤ 40
classes_at_most cs h = omega (arith, at_most class_kind 40 (λ above c h. search tests) [] cs (omega arith) h)

-- ... at most 200 priority rows
pub priorities_at_most : (cs : List ClassRow) (os : List PriorityRow)
    → T (hold_down (priority_kind cs) [] os) → length os ≤ 200
priorities_at_most cs os h =
    omega (arith, at_most (priority_kind cs) 200 (λ above o h. search tests) [] os (omega arith) h)

-- ... at most 200 securities
pub securities_at_most : (cs : List ClassRow) (ss : List SecurityRow)
    → T (hold_down (security_kind cs) [] ss) → length ss ≤ 200
securities_at_most cs ss h =
    omega (arith, at_most (security_kind cs) 200 (λ above s h. search tests) [] ss (omega arith) h)

-- ... and at most 500 trades
pub trades_at_most : (today : Day) (periods : Code → Option Period) (ts : List TradeRow)
    → T (hold_down (trade_kind today periods) [] ts) → length ts ≤ 500
trades_at_most today periods ts h =
    omega (arith, at_most (trade_kind today periods) 500 (λ above t h. search tests) [] ts (omega arith) h)
