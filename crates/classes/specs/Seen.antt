-- What the C rows above a row tell of it: the last class, and for each kind the least border that its next row may have.
use Rattle.std.specs.Prelude.{ℕ, ◌+◌, Bool, true, false, ◌&&◌, List, [], ◌∷◌, leb, ltb, get_or, set, Option, Some, None}
use Rattle.paper.specs.Rows as paper
use Rattle.answers.specs.declared.Refusal.{Refusal}
use Rattle.answers.specs.declared.Refusal.TheVariants.{Count, Order}
use Rattle.tables.specs.Held.{held_class}
use Rattle.tables.specs.declared.ClassRow.{ClassRow}
use Rattle.classes.specs.declared.Seen.{Seen}

-- No row
abbrev pub none_seen : Seen
none_seen = record { last = 0; least = 0 ∷ 0 ∷ 0 ∷ 0 ∷ [] }

-- Whether a row may stand below what is seen
abbrev pub fits_of : Seen → ClassRow → Bool
fits_of seen c = ltb seen.last c.class && leb (get_or seen.least c.kind 0) c.border

-- The rule that a row breaks with so many above it, of which this is seen: 8 fewer than 40 above; 9 it fits
abbrev pub broken_of : Seen → ℕ → ClassRow → Option Refusal
broken_of seen count c =
    elim (ltb count 40) [ false ↦ Some Count | true ↦ elim (fits_of seen c) [ false ↦ Some Order | true ↦ None ] ]

-- What is seen with a row too
abbrev pub after_of : Seen → ClassRow → Seen
after_of seen c = record { last = c.class; least = set seen.least c.kind (c.border + 1) }

-- What rows tell, the nearest first
abbrev pub seen_of : List paper.ClassRow → Seen
seen_of [] = none_seen
seen_of (c ∷ above) = after_of (seen_of above) (held_class c)
