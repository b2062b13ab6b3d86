-- Lines and fields by their places in the sheet, in bytes from its start.
use Rattle.std.specs.Prelude.{ℕ, zero, suc, ◌+◌, ◌≤◌, ◌<◌, true, false, cond, List, [], ◌∷◌, ◌++◌, eqb, length, get_or, take, drop, replicate}
use Rattle.std.proofs.Math.Seq.{slice}
use Rattle.paper.specs.Units.{Text}
use Rattle.paper.specs.Text.{LF, semicolon}
use Rattle.places.specs.declared.Line.{Line}

-- A place in the sheet
abbrev pub Place : Type 0
Place = ℕ

-- The bytes of a text up to its last LF, and with it: 0 where it has none
abbrev pub ended_length : Text → ℕ
ended_length [] = 0
ended_length (b ∷ t) = elim (ended_length t) [ zero ↦ cond (eqb b LF) 1 0 | suc n ↦ suc (suc n) ]

-- Where the fields of a line end, which goes on with a text from a place: at each `;`, and last at its LF
abbrev pub ends_from : Place → Text → List Place
ends_from at [] = []
ends_from at (b ∷ t) =
    elim (eqb b LF) [
      | true ↦ at ∷ []
      | false ↦ elim (eqb b semicolon) [ true ↦ at ∷ ends_from (suc at) t | false ↦ ends_from (suc at) t ]
    ]

-- The last place of a list
abbrev pub last_place : List Place → Place
last_place [] = 0
last_place (p ∷ []) = p
last_place (p ∷ q ∷ ps) = last_place (q ∷ ps)

-- A line that starts at a place: how many fields it has, where the first ten end, and the place behind its LF
abbrev pub line_at : Text → Place → Line
line_at sheet at =
    let ends = ends_from at (drop at sheet) in
    record { count = length ends; ends = take 10 (ends ++ replicate 10 0); next = suc (last_place ends) }

-- The field so many places behind the letter, of a line whose fields end at these places
abbrev pub field_text : Text → List Place → ℕ → Text
field_text sheet ends k = slice (get_or ends k 0 + 1) (get_or ends (k + 1) 0) sheet

-- It stands in the sheet
pub record Stands (sheet : Text) (ends : List Place) (k : ℕ) : Type 0 where
  pub few : k < 9
  pub ordered : get_or ends k 0 + 1 ≤ get_or ends (k + 1) 0
  pub inside : get_or ends (k + 1) 0 ≤ length sheet
