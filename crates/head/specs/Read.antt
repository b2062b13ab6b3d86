-- The header and the D row as the code reads them.
use Rattle.std.specs.Prelude.{true, false, [], take, drop, Result, Ok, Err}
use Rattle.paper.specs.Units.{Text, Day}
use Rattle.paper.specs.Days.{day}
use Rattle.paper.specs.Text.{ascii, same}
use Rattle.paper.specs.Refusals.{date_kind}
use Rattle.paper.specs.Sheet.{row}
use Rattle.places.specs.Places.{Place}
use Rattle.answers.specs.Refusals.{refusal}
use Rattle.answers.specs.declared.Refusal.{Refusal}
use Rattle.sections.specs.Sections.{fields_at, read_as}
use Rattle.head.specs.Fields.{two_fields}

-- The D row, by its day and the place behind its line
abbrev pub date_read : Text → Result (Day × Place) Refusal
date_read sheet = read_as day (two_fields sheet 6) (row date_kind [] 2 (fields_at sheet 6))

-- The header: there, or its refusal
abbrev pub header_read : Text → Result (Unit {0}) Refusal
header_read sheet =
    elim (same (ascii "BRM;") (take 4 sheet)) [
      | false ↦ Err (refusal 3)
      | true ↦ elim (same (ascii "1\n") (take 2 (drop 4 sheet))) [ false ↦ Err (refusal 4) | true ↦ Ok tt ]
    ]
