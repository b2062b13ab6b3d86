-- The table of bounds: how large each figure of admitted tables can be, each with what it comes from. A signed figure is bound
-- in its size, which is what it is without its sign.
use Rattle.std.specs.Prelude.{ℕ, ◌≤◌}
use Rattle.paper.specs.Units.{Line, Days, Class, Quote, Cents, Whole}
use Rattle.paper.specs.Rows.{PriorityRow}
use Rattle.paper.specs.Offsetting.{Book, position}

-- Yearly coupon × days run: 2,000,000 hundred-thousandths of a percent × 400 days
abbrev pub most_accrual_product : ℕ
most_accrual_product = 800_000_000

-- Payments a year × days of the coupon period: 4 × 400 days
abbrev pub most_accrual_divisor : Days
most_accrual_divisor = 1_600

-- Accrued coupon, hundred-thousandths of a percent: no more than the yearly
abbrev pub most_accrued : Quote
most_accrued = 2_000_000

-- Price with accrued coupon, hundred-thousandths of a percent: 20,000,000 + 2,000,000
abbrev pub most_quote : Quote
most_quote = 22_000_000

-- Nominal × that: 100,000,000 whole units × 22,000,000
abbrev pub most_worth_product : ℕ
most_worth_product = 2_200_000_000_000_000

-- Revaluated amount, cents: that / 100,000
abbrev pub most_worth : Cents
most_worth = 22_000_000_000

-- Days of repo interest: 729 of 730 days, and 5 to the next working day
abbrev pub most_interest_days : Days
most_interest_days = 734

-- Days × amount: 734 days × 30,000,000,000 cents
abbrev pub most_days_amount : ℕ
most_days_amount = 22_020_000_000_000

-- Days × amount × rate: that × 200,000 ten-thousandths of a percent; below 2 ^ 63
abbrev pub most_interest_product : ℕ
most_interest_product = 4_404_000_000_000_000_000

-- Repo interest, whole units: that / 36,000,000,000, and up to the next
abbrev pub most_interest : Whole
most_interest = 122_333_334

-- Mark-to-market, cents: 22,000,000,000 + 30,000,000,000 + 100 × 122,333,334
abbrev pub most_mark : Cents
most_mark = 64_233_333_400

-- Margined trades: no more than T rows
abbrev pub most_trades : ℕ
most_trades = 500

-- Line of a margined trade: the header, the D row, 40 + 200 + 200 rows and 500 T rows
abbrev pub most_line : Line
most_line = 942

-- Amounts of one security summed, cents: 500 × 22,000,000,000
abbrev pub most_net_cents : Cents
most_net_cents = 11_000_000_000_000

-- Net of a security, whole units: that / 100
abbrev pub most_net : Whole
most_net = 110_000_000_000

-- Position of a class, whole units: 200 securities × 110,000,000,000
abbrev pub most_position : Whole
most_position = 22_000_000_000_000

-- Factor × position: 10,000 ten-thousandths × that
abbrev pub most_share_product : ℕ
most_share_product = 220_000_000_000_000_000

-- Margin of a class, whole units: no more than a position
abbrev pub most_margin : Whole
most_margin = 22_000_000_000_000

-- Initial margin of a currency, whole units: 40 classes × that
abbrev pub most_initial : Whole
most_initial = 880_000_000_000_000

-- Mark-to-market sum of a currency, cents: 500 × 64,233,333,400
abbrev pub most_mark_sum : Cents
most_mark_sum = 32_116_666_700_000

-- Total of a currency, cents: 100 × 880,000,000,000,000 + 32,116,666,700,000
abbrev pub most_total : Cents
most_total = 88_032_116_666_700_000

-- What an O row's rules say of its fields. Factor: ten-thousandths
pub record PriorityFacts (o : PriorityRow) : Type 0 where
  pub first_low : 1 ≤ o.first
  pub first_high : o.first ≤ 40
  pub second_low : 1 ≤ o.second
  pub second_high : o.second ≤ 40
  pub factor : o.factor ≤ 10_000

-- Every position of a book is at most so large: whole units
pub record BookFacts (b : Book) : Type 0 where
  pub long : (n : Class) → position b.long n ≤ most_position
  pub short : (n : Class) → position b.short n ≤ most_position
