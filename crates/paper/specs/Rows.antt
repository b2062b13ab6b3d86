-- Rows (01, "The sheet"): the tables of a sheet, and how a row's fields are read and written.
-- Reading asks only for the form of a number and for a known letter; a code, a currency and a date are read as they
-- stand. All else, the form of those three too, is left to the rules of Refusals.
use Rattle.std.specs.Prelude.{ℕ, Bool, List, [], ◌∷◌, get_or}
use Rattle.std.proofs.Math.Option.{Option, some}
use Rattle.paper.specs.Units.{Text, Fields, Date, Class, Code, Currency, Nominal, Quote, Payments, Duration, Factor, Rate, Cents}
use Rattle.paper.specs.Lists.{first_that, ◌>>=◌}
use Rattle.paper.specs.Text.{ascii, same, number_in, signed_in, date_in, or_blank, blank_or, digits, signed_digits}

-- Kinds of bond: G government, C corporate, I inflation linked, F floating
pub data Kind : Type 0 where
  government corporate inflation floating : Kind

-- Kinds of trade: R repo, C cash
pub data Trade : Type 0 where
  repo cash : Trade

-- Sides of a trade: S seller, P purchaser
pub data Side : Type 0 where
  seller purchaser : Side

-- A C row. Border: ten-thousandths of a year, blank for I and F; deposit factor: ten-thousandths
pub record ClassRow : Type 0 where
  pub class : Class
  pub kind : Kind
  pub border : Option Duration
  pub deposit : Factor

-- An O row, of the priority list. Factor: ten-thousandths
pub record PriorityRow : Type 0 where
  pub first : Class
  pub second : Class
  pub factor : Factor

-- An S row. Duration: ten-thousandths of a year, blank for I and F; price, yearly coupon: hundred-thousandths of a percent
pub record SecurityRow : Type 0 where
  pub code : Code
  pub currency : Currency
  pub kind : Kind
  pub duration : Option Duration
  pub price : Quote
  pub coupon : Quote
  pub payments : Payments
  pub previous : Date
  pub next : Date

-- A T row. Nominal: whole units; amount: cents; rate: ten-thousandths of a percent; last date and rate blank for cash
pub record TradeRow : Type 0 where
  pub trade : Trade
  pub side : Side
  pub code : Code
  pub nominal : Nominal
  pub amount : Cents
  pub first : Date
  pub last : Option Date
  pub rate : Option Rate

-- What a sheet holds: the calculation date and its four tables, in sheet order
pub record Tables : Type 0 where
  pub date : Date
  pub classes : List ClassRow
  pub priorities : List PriorityRow
  pub securities : List SecurityRow
  pub trades : List TradeRow

-- The letter of a kind
abbrev pub kind_letter : Kind → Text
kind_letter government = ascii "G"
kind_letter corporate = ascii "C"
kind_letter inflation = ascii "I"
kind_letter floating = ascii "F"

-- The letter of a trade
abbrev pub trade_letter : Trade → Text
trade_letter repo = ascii "R"
trade_letter cash = ascii "C"

-- The letter of a side
abbrev pub side_letter : Side → Text
side_letter seller = ascii "S"
side_letter purchaser = ascii "P"

-- What a letter stands for, of a list
abbrev pub named : {A : Type 0} → (A → Text) → List A → Text → Option A
named letter all t = first_that (λ a. same (letter a) t) all

-- A kind, by its letter
abbrev pub kind_in : Text → Option Kind
kind_in = named kind_letter (government ∷ corporate ∷ inflation ∷ floating ∷ [])

-- A trade, by its letter
abbrev pub trade_in : Text → Option Trade
trade_in = named trade_letter (repo ∷ cash ∷ [])

-- A side, by its letter
abbrev pub side_in : Text → Option Side
side_in = named side_letter (seller ∷ purchaser ∷ [])

-- Whether two kinds are one
abbrev pub same_kind : Kind → Kind → Bool
same_kind a b = same (kind_letter a) (kind_letter b)

-- The field so many places behind the letter
abbrev pub field : ℕ → Fields → Text
field place fs = get_or fs place []

-- D rows, read: calculation date
abbrev pub read_date : Fields → Option Date
read_date fs = some (date_in (field 1 fs))

-- D rows, written
abbrev pub write_date : Date → Fields
write_date d = ascii "D" ∷ digits d ∷ []

-- C rows, read: class; kind; border; deposit factor
abbrev pub read_class : Fields → Option ClassRow
read_class fs = do
  class ← number_in (field 1 fs)
  kind ← kind_in (field 2 fs)
  border ← or_blank number_in (field 3 fs)
  deposit ← number_in (field 4 fs)
  some (record { class = class; kind = kind; border = border; deposit = deposit })

-- C rows, written
abbrev pub write_class : ClassRow → Fields
write_class c =
    ascii "C" ∷ digits c.class ∷ kind_letter c.kind ∷ blank_or digits c.border ∷ digits c.deposit ∷ []

-- O rows, read: class; class; factor
abbrev pub read_priority : Fields → Option PriorityRow
read_priority fs = do
  first ← number_in (field 1 fs)
  second ← number_in (field 2 fs)
  factor ← number_in (field 3 fs)
  some (record { first = first; second = second; factor = factor })

-- O rows, written
abbrev pub write_priority : PriorityRow → Fields
write_priority o = ascii "O" ∷ digits o.first ∷ digits o.second ∷ digits o.factor ∷ []

-- S rows, read: code; currency; kind; duration; price; coupon; payments a year; previous coupon date; next coupon date
abbrev pub read_security : Fields → Option SecurityRow
read_security fs = do
  kind ← kind_in (field 3 fs)
  duration ← or_blank number_in (field 4 fs)
  price ← number_in (field 5 fs)
  coupon ← number_in (field 6 fs)
  payments ← number_in (field 7 fs)
  some (record { code = field 1 fs; currency = field 2 fs; kind = kind; duration = duration; price = price; coupon = coupon; payments = payments; previous = date_in (field 8 fs); next = date_in (field 9 fs) })

-- S rows, written
abbrev pub write_security : SecurityRow → Fields
write_security s =
    ascii "S" ∷ s.code ∷ s.currency ∷ kind_letter s.kind ∷ blank_or digits s.duration ∷ digits s.price
    ∷ digits s.coupon ∷ digits s.payments ∷ digits s.previous ∷ digits s.next ∷ []

-- T rows, read: trade; side; code; nominal; amount; first date; last date; rate
abbrev pub read_trade : Fields → Option TradeRow
read_trade fs = do
  trade ← trade_in (field 1 fs)
  side ← side_in (field 2 fs)
  nominal ← number_in (field 4 fs)
  amount ← number_in (field 5 fs)
  last ← or_blank (λ t. some (date_in t)) (field 7 fs)
  rate ← or_blank signed_in (field 8 fs)
  some (record { trade = trade; side = side; code = field 3 fs; nominal = nominal; amount = amount; first = date_in (field 6 fs); last = last; rate = rate })

-- T rows, written
abbrev pub write_trade : TradeRow → Fields
write_trade t =
    ascii "T" ∷ trade_letter t.trade ∷ side_letter t.side ∷ t.code ∷ digits t.nominal ∷ digits t.amount
    ∷ digits t.first ∷ blank_or digits t.last ∷ blank_or signed_digits t.rate ∷ []
