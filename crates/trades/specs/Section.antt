-- The T section as the code holds it.
use Rattle.std.specs.Prelude.{ℕ, List, Result}
use Rattle.paper.specs.Units.{Text, Day}
use Rattle.paper.specs.Rows.{TradeRow}
use Rattle.paper.specs.Refusals.{Outcome}
use Rattle.paper.specs.Sheet.{Rest}
use Rattle.arrayvec.specs.ArrayVec.{ArrayVec}
use Rattle.answers.specs.declared.Refused.{Refused}
use Rattle.places.specs.Places.{Place}
use Rattle.tables.specs.Held.{trade_table}
use Rattle.tables.specs.declared.Trade.{Trade}
use Rattle.sections.specs.Sections.{section_as}

-- The section that starts at a place, with the calculation day and the numbers of the securities' codes: its table with the place
-- behind it, or its refusal
abbrev pub trade_section : Day → List ℕ → Text → Place → Outcome (List TradeRow × Rest) → Result (ArrayVec Trade × Place) Refused
trade_section today codes = section_as (trade_table today codes)
