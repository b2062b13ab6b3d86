-- A C row by the readings of its fields.
use Prim.Native.Nat.{ℕ}
use native.Mathlib.Omega.{arith}
use mathlib.Core.Bool.{Bool, true, false, ◌&&◌}
use mathlib.Core.Option.{Option, some, map, get_or}
use mathlib.Core.Path.{◌≡◌, refl, ◌∙◌}
use lib.Dec.{leb, ltb}
use Rattle.paper.specs.Units.{Text, Fields, Duration}
use Rattle.paper.specs.Lists.{between, when, ◌>>=◌}
use Rattle.paper.specs.Rows as paper
use Rattle.paper.specs.Rows.{Kind, field, kind_in, read_class}
use Rattle.paper.specs.Refusals.{is_duration, class_kind}
use Rattle.tables.specs.Numbers.{kind_number}
use Rattle.tables.specs.Held.{held_class}
use Rattle.tables.specs.declared.ClassRow.{ClassRow}
use Rattle.places.specs.Places.{Place}
use Rattle.places.specs.declared.Line.{Line}
use Rattle.fields.specs.Values.{ranged_in, duration_in}
use Rattle.sections.specs.Sections.{fields_at}
use Rattle.sections.proofs.Reading.{Lined, from_zero, gated, lettered, ranged, lasting}
use Rattle.classes.specs.Read.{class_fields}

-- Rule 6 of a C row
abbrev pub six : paper.ClassRow → Bool
six c = between 1 40 c.class && is_duration c.kind c.border && leb c.deposit 10_000

-- The row that fields are read as, as it is held, where it keeps the rule
abbrev pub end : Option paper.ClassRow → Option ClassRow
end o = map held_class (o >>= λ c. when (six c) c)

-- ... by the texts of its fields
abbrev class_from : Text → Text → Text → Text → Option ClassRow
class_from first second third fourth =
    ranged_in 1 40 first >>= λ class.
    map kind_number (kind_in second) >>= λ kind.
    duration_in (ltb kind 2) third >>= λ border.
    ranged_in 0 10_000 fourth >>= λ deposit.
    some (record { class = class; kind = kind; border = border; deposit = deposit })

-- ... one after the other
one_by_one : (fs : Fields) → end (read_class fs) ≡ class_from (field 1 fs) (field 2 fs) (field 3 fs) (field 4 fs)
one_by_one fs =
    ranged end refl true 1 40 (field 1 fs) _ _ λ class.
    lettered end refl (between 1 40 class) (kind_in (field 2 fs)) kind_number _ _ λ kind.
    lasting end refl (between 1 40 class) kind (field 3 fs) _ _ λ border.
    ranged end refl (between 1 40 class && is_duration kind border) 0 10_000 (field 4 fs) _ _ λ deposit.
    last class kind border deposit
  where
    last : (class : ℕ) (kind : Kind) (border : Option Duration) (deposit : ℕ)
        → end (some (record { class = class; kind = kind; border = border; deposit = deposit }))
        ≡ gated ((between 1 40 class && is_duration kind border) && between 0 10_000 deposit)
        (some (record { class = class; kind = kind_number kind; border = get_or border 0; deposit = deposit }))
    last class kind border deposit = rw (from_zero 10_000 deposit) (go (between 1 40 class) (is_duration kind border) (leb deposit 10_000))
      where
        row : paper.ClassRow
        row = record { class = class; kind = kind; border = border; deposit = deposit }

        go : (a b c : Bool) → map held_class (when (a && b && c) row) ≡ gated ((a && b) && c) (some (held_class row))
        go true true true = refl
        go true true false = refl
        go true false c = refl
        go false b c = refl

-- What stands in the fields of the line
pub fields_read : (s : Text) (at : Place) (line : Line) → Lined s at line 5
    → end (class_kind.read (fields_at s at)) ≡ class_fields s line.ends
fields_read s at line l =
    one_by_one (fields_at s at)
    ∙ (λ i. class_from (l.parts 0 (omega arith) i) (l.parts 1 (omega arith) i) (l.parts 2 (omega arith) i) (l.parts 3 (omega arith) i))
