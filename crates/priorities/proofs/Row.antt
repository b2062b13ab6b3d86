-- An O row by the readings of its fields.
use Prim.Native.Nat.{ℕ}
use native.Mathlib.Omega.{arith}
use mathlib.Core.Bool.{Bool, true, false, ◌&&◌}
use mathlib.Core.List.{[]}
use mathlib.Core.Option.{Option, some, map}
use mathlib.Core.Path.{◌≡◌, refl, ◌∙◌}
use lib.Dec.{leb}
use Rattle.paper.specs.Units.{Text, Fields}
use Rattle.paper.specs.Lists.{between, when, ◌>>=◌}
use Rattle.paper.specs.Rows as paper
use Rattle.paper.specs.Rows.{field, read_priority}
use Rattle.paper.specs.Refusals.{priority_kind}
use Rattle.tables.specs.Held.{held_priority}
use Rattle.tables.specs.declared.PriorityRow.{PriorityRow}
use Rattle.places.specs.Places.{Place}
use Rattle.places.specs.declared.Line.{Line}
use Rattle.fields.specs.Values.{ranged_in}
use Rattle.sections.specs.Sections.{fields_at}
use Rattle.sections.proofs.Reading.{Lined, from_zero, gated, ranged}
use Rattle.priorities.specs.Read.{priority_fields}

-- Rule 6 of an O row
abbrev pub six : paper.PriorityRow → Bool
six o = between 1 40 o.first && between 1 40 o.second && leb o.factor 10_000

-- The row that fields are read as, as it is held, where it keeps the rule
abbrev end : Option paper.PriorityRow → Option PriorityRow
end o = map held_priority (o >>= λ o. when (six o) o)

-- ... by the texts of its fields
abbrev priority_from : Text → Text → Text → Option PriorityRow
priority_from first second third =
    ranged_in 1 40 first >>= λ first.
    ranged_in 1 40 second >>= λ second.
    ranged_in 0 10_000 third >>= λ factor.
    some (record { first = first; second = second; factor = factor })

-- ... one after the other
one_by_one : (fs : Fields) → end (read_priority fs) ≡ priority_from (field 1 fs) (field 2 fs) (field 3 fs)
one_by_one fs =
    ranged end refl true 1 40 (field 1 fs) _ _ λ first.
    ranged end refl (between 1 40 first) 1 40 (field 2 fs) _ _ λ second.
    ranged end refl (between 1 40 first && between 1 40 second) 0 10_000 (field 3 fs) _ _ λ factor.
    last first second factor
  where
    last : (first second factor : ℕ) → end (some (record { first = first; second = second; factor = factor }))
        ≡ gated ((between 1 40 first && between 1 40 second) && between 0 10_000 factor) (some (record { first = first; second = second; factor = factor }))
    last first second factor = rw (from_zero 10_000 factor) (go (between 1 40 first) (between 1 40 second) (leb factor 10_000))
      where
        row : paper.PriorityRow
        row = record { first = first; second = second; factor = factor }

        go : (a b c : Bool) → map held_priority (when (a && b && c) row) ≡ gated ((a && b) && c) (some (held_priority row))
        go true true true = refl
        go true true false = refl
        go true false c = refl
        go false b c = refl

-- What stands in the fields of the line
pub fields_read : (s : Text) (at : Place) (line : Line) → Lined s at line 4
    → end ((priority_kind []).read (fields_at s at)) ≡ priority_fields s line.ends
fields_read s at line l =
    one_by_one (fields_at s at) ∙ (λ i. priority_from (l.parts 0 (omega arith) i) (l.parts 1 (omega arith) i) (l.parts 2 (omega arith) i))
