-- The end of a sheet, behind the T rows.
use native.Mathlib.Nat.{eq-or-lt_of_le}
use Prim.Native.Nat.{◌≤◌}
use native.Mathlib.Omega.{arith}
use mathlib.Core.List.{List, ◌∷◌}
use mathlib.Core.Logic.{⊎_elim}
use mathlib.Core.Path.{◌≡◌, ap, ◌∙◌}
use lib.Dec.{eqb-suc-zero}
use lib.ListN.{length, drop}
use Rattle.paper.specs.Units.{Text, Fields, Line}
use Rattle.paper.specs.Text.{lines}
use Rattle.paper.specs.Refusals.{refused, accepted}
use Rattle.paper.specs.Sheet.{ended}
use Rattle.places.specs.Places.{Place, ended_length, line_at}
use Rattle.places.proofs.Places.{line_there, no_line, unended_line, ended_most}

-- The end of a sheet: no line is left where the place is the sheet's end, and one is left elsewhere
pub ended_there : {A : Type 0} (sheet : Text) (a : A) (at : Place) (line : Line) → at ≤ ended_length sheet → at ≡ length sheet
    → ended a (line, lines (drop at sheet)) ≡ accepted a
ended_there sheet a at line h e =
    let last : at ≡ ended_length sheet = omega (arith, ended_most sheet) in
    ap (λ (fss : List Fields). ended a (line, fss)) (no_line sheet at last e)

ended_more : {A : Type 0} (a : A) (line : Line) (fs : Fields) (more : List Fields) → ended a (line, fs ∷ more) ≡ refused 5 line
ended_more a line fs more = rw (eqb-suc-zero (length more))

pub ended_early : {A : Type 0} (sheet : Text) (a : A) (at : Place) (line : Line) → at ≤ ended_length sheet → (at ≡ length sheet → ⊥)
    → ended a (line, lines (drop at sheet)) ≡ refused 5 line
ended_early sheet a at line h other =
    ⊎_elim
    (λ last. ap (λ (fss : List Fields). ended a (line, fss)) (unended_line sheet at last (omega (arith, ended_most sheet))))
    (λ less. ap (λ (fss : List Fields). ended a (line, fss)) (line_there sheet at less).read ∙ ended_more a line (line_there sheet at less).fields (lines (drop (line_at sheet at).next sheet)))
    (eq-or-lt_of_le h)
