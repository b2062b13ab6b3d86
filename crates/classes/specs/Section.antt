-- The C section as the code holds it.
use Rattle.std.specs.Prelude.{List, Result}
use Rattle.paper.specs.Units.{Text}
use Rattle.paper.specs.Rows.{ClassRow}
use Rattle.paper.specs.Refusals.{Outcome}
use Rattle.paper.specs.Sheet.{Rest}
use Rattle.answers.specs.declared.Refused.{Refused}
use Rattle.places.specs.Places.{Place}
use Rattle.tables.specs.Held.{class_table}
use Rattle.arrayvec.specs.ArrayVec.{ArrayVec}
use Rattle.tables.specs.declared.ClassRow as tables
use Rattle.sections.specs.Sections.{section_as}

-- The section that starts at a place: its table with the place behind it, or its refusal
abbrev pub class_section : Text → Place → Outcome (List ClassRow × Rest) → Result (ArrayVec tables.ClassRow × Place) Refused
class_section = section_as class_table
