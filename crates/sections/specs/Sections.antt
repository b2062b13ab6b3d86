-- Sections by their places: the fields of a line, whether a section goes on there, a row judged in two steps, by itself and by
-- other rows, and what the code answers of a row and of a section.
use Rattle.std.specs.Prelude.{ℕ, zero, suc, Bool, true, false, ◌&&◌, List, [], ◌∷◌, eqb, ltb, length, get_or, drop, Result, Ok, Err}
use Rattle.std.proofs.Math.Option.{Option, none, some}
use Rattle.paper.specs.Units.{Byte, Text, Fields, Number}
use Rattle.paper.specs.Text.{lines}
use Rattle.paper.specs.Refusals.{Outcome, refused, accepted, Rule, judged, RowKind}
use Rattle.paper.specs.Sheet.{Rest, begins}
use Rattle.places.specs.Places.{Place, line_at}
use Rattle.answers.specs.Refusals.{refusal}
use Rattle.answers.specs.declared.Refusal.{Refusal}
use Rattle.answers.specs.declared.Refused.{Refused}

-- The fields of the line that starts at a place
abbrev pub fields_at : Text → Place → Fields
fields_at sheet at = get_or (lines (drop at sheet)) 0 []

-- Whether a line stands before the end, and has a letter
abbrev pub goes_on : Text → Place → Place → Byte → Bool
goes_on sheet at end letter = ltb at end && begins (letter ∷ []) (fields_at sheet at)

-- Where the line starts that is so many lines behind the one at a place
abbrev pub next_after : Text → Place → ℕ → Place
next_after sheet at zero = at
next_after sheet at (suc n) = next_after sheet (line_at sheet at).next n

-- A row by itself: 5 so many fields, the letter with them; 6 each has its form; then the row's own rules. No line is named
abbrev pub shaped : {R : Type 0} → RowKind R → Fields → Outcome R
shaped kind fs =
    elim (eqb (length fs) kind.many) [
      | false ↦ refused 5 0
      | true ↦ elim (kind.read fs) [ none ↦ refused 6 0 | some r ↦ judged 0 r (kind.own r) ]
    ]

-- By other rows: the number of the first rule that fails, where one does
abbrev pub broken : List Rule → Option Number
broken [] = none
broken (rule ∷ rules) = elim rule.1 [ true ↦ broken rules | false ↦ some rule.0 ]

-- What reading a row answers: the row as it is held, with the place of the next line, or its refusal
abbrev pub read_as : {R H : Type 0} → (R → H) → Place → Outcome R → Result (H × Place) Refusal
read_as held next (refused number line) = Err (refusal number)
read_as held next (accepted r) = Ok (held r, next)

-- What the section that starts at a place answers: the table of its rows, with the place of the line behind them, or its refusal
abbrev pub section_as : {R T : Type 0} → (List R → T) → Text → Place → Outcome (List R × Rest) → Result (T × Place) Refused
section_as table sheet from (refused number line) = Err (record { refusal = refusal number; line = line })
section_as table sheet from (accepted read) = Ok (table read.0, next_after sheet from (length read.0))

-- Its rows; none where it is refused
abbrev pub rows_in : {R : Type 0} → Outcome (List R × Rest) → List R
rows_in (refused number line) = []
rows_in (accepted read) = read.0
