-- The tables of a sheet as the code holds them: each is a map of the rows that the paper read.
use Rattle.std.specs.Prelude.{ℕ, List, [], map, pos}
use Rattle.std.proofs.Math.Option.{get_or}
use Rattle.paper.specs.Units.{Day, Currency}
use Rattle.paper.specs.Days.{day}
use Rattle.paper.specs.Rows as paper
use Rattle.paper.specs.Currencies.{currencies}
use Rattle.paper.specs.Valuation.{margined, accrual_day, class_of}
use Rattle.arrayvec.specs.ArrayVec.{ArrayVec}
use Rattle.tables.specs.Padded.{padded}
use Rattle.tables.specs.Numbers.{kind_number, trade_number, side_number, code_number, currency_number, highest, number_place}
use Rattle.tables.specs.declared.ClassRow.{ClassRow}
use Rattle.tables.specs.declared.PriorityRow.{PriorityRow}
use Rattle.tables.specs.declared.Security.{Security}
use Rattle.tables.specs.declared.Securities.{Securities}
use Rattle.tables.specs.declared.Trade.{Trade}
use Rattle.tables.specs.declared.Tables.{Tables}

-- ---- C rows

-- A C row; a border that is blank is 0
abbrev pub held_class : paper.ClassRow → ClassRow
held_class c = record { class = c.class; kind = kind_number c.kind; border = get_or c.border 0; deposit = c.deposit }

-- Their table
abbrev pub class_table : List paper.ClassRow → ArrayVec ClassRow
class_table cs = record { items = map held_class cs }

-- ---- O rows

-- An O row
abbrev pub held_priority : paper.PriorityRow → PriorityRow
held_priority o = record { first = o.first; second = o.second; factor = o.factor }

-- Their table
abbrev pub priority_table : List paper.PriorityRow → ArrayVec PriorityRow
priority_table os = record { items = map held_priority os }

-- ---- S rows

-- Currencies, in their order
abbrev pub currency_table : List Currency → ArrayVec ℕ
currency_table all = record { items = map currency_number all }

-- An S row, with the classes of the sheet and its currencies
abbrev pub held_security : List paper.ClassRow → List Currency → paper.SecurityRow → Security
held_security cs all s =
    record {
      price = s.price;
      coupon = s.coupon;
      payments = s.payments;
      previous = day s.previous;
      next = day s.next;
      class = get_or (class_of cs s.kind s.duration) 0;
      currency = number_place (map currency_number all) (currency_number s.currency);
    }

-- The numbers of their codes
abbrev pub codes_of : List paper.SecurityRow → List ℕ
codes_of ss = map (λ s. code_number s.code) ss

-- Their table
abbrev pub security_table : List paper.ClassRow → List paper.SecurityRow → Securities
security_table cs ss =
    record {
      rows = record { items = map (held_security cs (currencies ss)) ss };
      codes = padded 256 highest (codes_of ss);
      currencies = currency_table (currencies ss);
    }

-- ---- T rows

-- A T row, with the calculation day and the numbers of the securities' codes; a rate that is blank is 0
abbrev pub held_trade : Day → List ℕ → paper.TradeRow → Trade
held_trade today codes t =
    record {
      amount = t.amount;
      rate = get_or t.rate (pos 0);
      nominal = t.nominal;
      first = day t.first;
      accrual = accrual_day today t;
      security = number_place codes (code_number t.code);
      trade = trade_number t.trade;
      side = side_number t.side;
      margined = margined today t;
    }

-- Their table
abbrev pub trade_table : Day → List ℕ → List paper.TradeRow → ArrayVec Trade
trade_table today codes ts = record { items = map (held_trade today codes) ts }

-- ---- the whole

-- All tables of a sheet
abbrev pub held_tables : paper.Tables → Tables
held_tables t =
    record {
      classes = class_table t.classes;
      priorities = priority_table t.priorities;
      securities = security_table t.classes t.securities;
      trades = trade_table (day t.date) (codes_of t.securities) t.trades;
    }

-- Tables without rows
abbrev pub no_tables : paper.Tables
no_tables = record { date = 0; classes = []; priorities = []; securities = []; trades = [] }
