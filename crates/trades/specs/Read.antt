-- What reading a T row answers: the row with the place of the next line, or its refusal.
use Rattle.std.specs.Prelude.{◌+◌, ◌-◌, Bool, true, false, List, [], ◌∷◌, pos, get_or, eqb, Result}
use Rattle.std.proofs.Math.Option as maybe
use Rattle.std.proofs.Math.Option.{Option, none, some}
use Rattle.paper.specs.Units.{Text, Date, Day, Rate}
use Rattle.paper.specs.Days.{day_of, day}
use Rattle.paper.specs.Lists.{between, when, ◌>>=◌}
use Rattle.paper.specs.Rows as paper
use Rattle.paper.specs.Rows.{trade_in, side_in}
use Rattle.paper.specs.Valuation.{last_day}
use Rattle.paper.specs.Refusals.{trade_kind}
use Rattle.answers.specs.declared.Refusal.{Refusal}
use Rattle.places.specs.Places.{Place, line_at, field_text}
use Rattle.tables.specs.Numbers.{trade_number, side_number, code_number}
use Rattle.codes.specs.Counts.{code_in}
use Rattle.fields.specs.Values.{ranged_in, rate_in, letter_in}
use Rattle.sections.specs.Sections.{fields_at, shaped, read_as}
use Rattle.trades.specs.declared.Terms.{Terms}
use Rattle.trades.specs.declared.TradeRow.{TradeRow}

-- The rate of a repo; 0 for cash, whose last date and rate are blank
abbrev pub rate_of : Bool → Text → Text → Option Rate
rate_of false last rate = rate_in rate
rate_of true [] [] = some (pos 0)
rate_of true [] (b ∷ rate) = none
rate_of true (b ∷ last) rate = none

-- What the fields of a T row that are no dates read as, by where they end
abbrev pub trade_terms : Text → List Place → Option Terms
trade_terms sheet ends =
    letter_in 82 67 (field_text sheet ends 0) >>= λ trade.
    letter_in 83 80 (field_text sheet ends 1) >>= λ side.
    code_in (field_text sheet ends 2) >>= λ number.
    ranged_in 1 100_000_000 (field_text sheet ends 3) >>= λ nominal.
    ranged_in 1 30_000_000_000 (field_text sheet ends 4) >>= λ amount.
    rate_of (eqb trade 1) (field_text sheet ends 6) (field_text sheet ends 7) >>= λ rate.
    some (record { trade = trade; side = side; number = number; nominal = nominal; amount = amount; rate = rate })

-- The first and the last day of a trade: a repo's last is 1 to 730 days after its first, and cash has none
abbrev pub trade_days : Bool → Date → Date → Option (Day × Day)
trade_days true first last = day_of first >>= λ a. some (a, 0)
trade_days false first last = day_of first >>= λ a. day_of last >>= λ b. when (between 1 730 (b - a)) (a, b)

-- The terms of a T row
abbrev pub held_terms : paper.TradeRow → Terms
held_terms t =
    record {
      trade = trade_number t.trade;
      side = side_number t.side;
      number = code_number t.code;
      nominal = t.nominal;
      amount = t.amount;
      rate = maybe.get_or t.rate (pos 0);
    }

-- A T row of the line at a place, on which its code is the third field behind the letter
abbrev pub held_row : Text → Place → paper.TradeRow → TradeRow
held_row sheet at t =
    record {
      code = get_or (line_at sheet at).ends 2 0 + 1;
      terms = held_terms t;
      first = day t.first;
      last = last_day t;
    }

-- The T row of the line at a place, before any look at other rows
abbrev pub trade_read : Text → Place → Result (TradeRow × Place) Refusal
trade_read sheet at = read_as (held_row sheet at) (line_at sheet at).next (shaped (trade_kind 0 (λ code. none)) (fields_at sheet at))
