-- The O section as the code holds it.
use Rattle.std.specs.Prelude.{List, Result}
use Rattle.paper.specs.Units.{Text}
use Rattle.paper.specs.Rows.{PriorityRow}
use Rattle.paper.specs.Refusals.{Outcome}
use Rattle.paper.specs.Sheet.{Rest}
use Rattle.arrayvec.specs.ArrayVec.{ArrayVec}
use Rattle.answers.specs.declared.Refused.{Refused}
use Rattle.places.specs.Places.{Place}
use Rattle.tables.specs.Held.{priority_table}
use Rattle.tables.specs.declared.PriorityRow as held
use Rattle.sections.specs.Sections.{section_as}

-- The section that starts at a place: its table with the place behind it, or its refusal
abbrev pub priority_section : Text → Place → Outcome (List PriorityRow × Rest) → Result (ArrayVec held.PriorityRow × Place) Refused
priority_section = section_as priority_table
