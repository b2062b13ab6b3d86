-- What stands where a table has no row.
use Rattle.std.specs.Prelude.{false, pos}
use Rattle.tables.specs.declared.ClassRow.{ClassRow}
use Rattle.tables.specs.declared.PriorityRow.{PriorityRow}
use Rattle.tables.specs.declared.Security.{Security}
use Rattle.tables.specs.declared.Trade.{Trade}

-- C rows
abbrev pub no_class : ClassRow
no_class = record { class = 0; kind = 0; border = 0; deposit = 0 }

-- O rows
abbrev pub no_priority : PriorityRow
no_priority = record { first = 0; second = 0; factor = 0 }

-- S rows
abbrev pub no_security : Security
no_security = record { price = 0; coupon = 0; payments = 0; previous = 0; next = 0; class = 0; currency = 0 }

-- T rows
abbrev pub no_trade : Trade
no_trade =
    record {
      amount = 0;
      rate = pos 0;
      nominal = 0;
      first = 0;
      accrual = 0;
      security = 0;
      trade = 0;
      side = 0;
      margined = false;
    }
