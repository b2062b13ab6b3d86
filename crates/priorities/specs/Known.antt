-- Which classes have a C row, and an O row judged by them.
use Rattle.std.specs.Prelude.{ℕ, zero, suc, Bool, true, false, ◌&&◌, List, [], ◌∷◌, ltb, get_or, Option, Some, None}
use Rattle.paper.specs.Units.{Class}
use Rattle.paper.specs.Rows.{ClassRow}
use Rattle.paper.specs.Refusals.{has_class}
use Rattle.answers.specs.declared.Refusal.{Refusal}
use Rattle.answers.specs.declared.Refusal.TheVariants.{Count, Missing}
use Rattle.tables.specs.declared.PriorityRow.{PriorityRow}

-- Whether each class number from one on, so many, has a C row
abbrev pub known_from : ℕ → Class → List ClassRow → List Bool
known_from zero n cs = []
known_from (suc many) n cs = has_class cs n ∷ known_from many (suc n) cs

-- ... from 0 to 40
abbrev pub known_of : List ClassRow → List Bool
known_of cs = known_from 41 0 cs

-- The rule that a row breaks with so many above it: 8 fewer than 200 above; 10 both classes are known
abbrev pub broken_of : List Bool → ℕ → PriorityRow → Option Refusal
broken_of known count o =
    elim (ltb count 200) [
      | false ↦ Some Count
      | true ↦ elim (get_or known o.first false && get_or known o.second false) [ false ↦ Some Missing | true ↦ None ]
    ]
