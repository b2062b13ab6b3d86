-- Fields that a reader hands out, each with the mark that ends it.
use Rattle.std.specs.Prelude.{ℕ, suc, ◌+◌, Bool, cond, ◌||◌, [], ◌∷◌, eqb, take, drop}
use Rattle.paper.specs.Units.{Byte, Text}
use Rattle.paper.specs.Text.{LF, semicolon}
use Rattle.places.specs.Places.{Place}

-- Whether a byte ends a field
abbrev pub is_mark : Byte → Bool
is_mark b = eqb b semicolon || eqb b LF

-- The bytes of the field that a text starts with, its mark with them; all where it has none
abbrev pub field_length : Text → ℕ
field_length [] = 0
field_length (b ∷ t) = suc (cond (is_mark b) 0 (field_length t))

-- The field that starts at a place, its mark with it
abbrev pub handed_out : Text → Place → Text
handed_out sheet at = let rest = drop at sheet in take (field_length rest) rest

-- The place behind the field that starts at a place, and behind its mark
abbrev pub behind_field : Text → Place → Place
behind_field sheet at = at + field_length (drop at sheet)

-- The place behind two fields, the first of which starts at a place
abbrev pub two_fields : Text → Place → Place
two_fields sheet at = behind_field sheet (behind_field sheet at)
