-- What reading a C row answers: the row with the place of the next line, or its refusal.
use Rattle.std.specs.Prelude.{List, Result, ltb}
use Rattle.std.proofs.Math.Option.{Option, some, map}
use Rattle.paper.specs.Units.{Text}
use Rattle.paper.specs.Lists.{◌>>=◌}
use Rattle.paper.specs.Rows.{kind_in}
use Rattle.paper.specs.Refusals.{class_kind}
use Rattle.answers.specs.declared.Refusal.{Refusal}
use Rattle.places.specs.Places.{Place, line_at, field_text}
use Rattle.tables.specs.Numbers.{kind_number}
use Rattle.tables.specs.Held.{held_class}
use Rattle.tables.specs.declared.ClassRow.{ClassRow}
use Rattle.fields.specs.Values.{ranged_in, duration_in}
use Rattle.sections.specs.Sections.{fields_at, shaped, read_as}

-- What the fields of a C row read as, by where they end
abbrev pub class_fields : Text → List Place → Option ClassRow
class_fields sheet ends =
    ranged_in 1 40 (field_text sheet ends 0) >>= λ class.
    map kind_number (kind_in (field_text sheet ends 1)) >>= λ kind.
    duration_in (ltb kind 2) (field_text sheet ends 2) >>= λ border.
    ranged_in 0 10_000 (field_text sheet ends 3) >>= λ deposit.
    some (record { class = class; kind = kind; border = border; deposit = deposit })

-- A C row of the line at a place, before any look at the rows above
abbrev pub class_read : Text → Place → Result (ClassRow × Place) Refusal
class_read sheet at = read_as held_class (line_at sheet at).next (shaped class_kind (fields_at sheet at))
