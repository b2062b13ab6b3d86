-- What reading an O row answers: the row with the place of the next line, or its refusal.
use Rattle.std.specs.Prelude.{List, [], Result}
use Rattle.std.proofs.Math.Option.{Option, some}
use Rattle.paper.specs.Units.{Text}
use Rattle.paper.specs.Lists.{◌>>=◌}
use Rattle.paper.specs.Refusals.{priority_kind}
use Rattle.answers.specs.declared.Refusal.{Refusal}
use Rattle.places.specs.Places.{Place, line_at, field_text}
use Rattle.tables.specs.Held.{held_priority}
use Rattle.tables.specs.declared.PriorityRow.{PriorityRow}
use Rattle.fields.specs.Values.{ranged_in}
use Rattle.sections.specs.Sections.{fields_at, shaped, read_as}

-- What the fields of an O row read as, by where they end
abbrev pub priority_fields : Text → List Place → Option PriorityRow
priority_fields sheet ends =
    ranged_in 1 40 (field_text sheet ends 0) >>= λ first.
    ranged_in 1 40 (field_text sheet ends 1) >>= λ second.
    ranged_in 0 10_000 (field_text sheet ends 2) >>= λ factor.
    some (record { first = first; second = second; factor = factor })

-- An O row of the line at a place, before any look at the C rows
abbrev pub priority_read : Text → Place → Result (PriorityRow × Place) Refusal
priority_read sheet at = read_as held_priority (line_at sheet at).next (shaped (priority_kind []) (fields_at sheet at))
