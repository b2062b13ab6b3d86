-- The O section's room, and how its rows are judged: what the code makes of a row is what the paper makes of it.
use Prim.Native.Nat.{ℕ, zero, suc, ◌+◌, ◌≤◌, ◌<◌}
use native.Mathlib.Omega.{arith}
use mathlib.Core.Bool.{Bool, true, false, ◌&&◌}
use mathlib.Core.List.{List, [], ◌∷◌}
use mathlib.Core.Option as maybe
use Rattle.std.proofs.Common.{Option, Some, None}
use mathlib.Core.Path.{◌≡◌, refl, ap, ap₂, ◌∙◌}
use lib.Dec.{T, ltb}
use lib.ListN.{length, get_or}
use Rattle.paper.specs.Rows as paper
use Rattle.paper.specs.Refusals.{has_class, priority_kind}
use Rattle.paper.specs.Tables.{hold}
use Rattle.paper.proofs.Lists.{tests}
use Rattle.tables.specs.Held.{held_priority, priority_table}
use Rattle.tables.specs.declared.PriorityRow.{PriorityRow}
use Rattle.arrayvec.specs.ArrayVec.{ArrayVec}
use Rattle.answers.specs.Options.{answer}
use Rattle.answers.specs.Refusals.{refusal}
use Rattle.answers.specs.declared.Refusal.{Refusal}
use Rattle.answers.specs.declared.Refusal.TheVariants.{Count, Missing}
use Rattle.sections.specs.Sections.{broken}
use Rattle.sections.proofs.Loops.{Kept, more_kept}
use Rattle.sections.proofs.Rooms.{Room, Judge}
use Rattle.priorities.specs.Known.{known_from, known_of, broken_of}

-- What is known of a class is whether it has a C row
pub known_at : (many : ℕ) (first n : ℕ) (cs : List paper.ClassRow) → n < many → get_or (known_from many first cs) n false ≡ has_class cs (first + n)
known_at zero first n cs h = absurd (omega arith)
known_at (suc many) first zero cs h = ap (has_class cs) (omega arith)
known_at (suc many) first (suc n) cs h = known_at many (suc first) n cs (omega arith) ∙ ap (has_class cs) (omega arith)

module _ (cs : List paper.ClassRow) where
  -- The room
  abbrev pub room : Room paper.PriorityRow PriorityRow PriorityRow (ArrayVec PriorityRow)
  room =
      record {
        kind = priority_kind cs;
        letter = 79;
        its_letter = refl;
        held = λ sheet at. held_priority;
        most = 200;
        kept = held_priority;
        table = priority_table;
      }

  -- There was room for the last of rows that keep the rules
  pub few : {above : List paper.PriorityRow} {o : paper.PriorityRow} → Kept (priority_kind cs) (o ∷ above) → length above < 200
  few (more_kept h kept) = search tests

  -- What a row's own rules say of its classes
  pub low : (o : paper.PriorityRow) → T (hold ((priority_kind cs).own o)) → (o.first ≤ 40) × (o.second ≤ 40)
  low o h = (search tests, search tests)

  -- A row is judged by what is known as by the C rows
  pub alike : (above : List paper.PriorityRow) (o : paper.PriorityRow) → T (hold ((priority_kind cs).own o))
      → broken_of (known_of cs) (length above) (held_priority o) ≡ answer (maybe.map refusal (broken ((priority_kind cs).others above o)))
  alike above o own =
      ap judged (ap₂ ◌&&◌ (known_at 41 0 o.first cs (omega (arith, (low o own).0)) ∙ ap (has_class cs) (omega arith))
      (known_at 41 0 o.second cs (omega (arith, (low o own).1)) ∙ ap (has_class cs) (omega arith)))
      ∙ both (ltb (length above) 200) (has_class cs o.first && has_class cs o.second)
    where
      judged : Bool → Option Refusal
      judged known = elim (ltb (length above) 200) [ false ↦ Some Count | true ↦ elim known [ false ↦ Some Missing | true ↦ None ] ]

      both : (room known : Bool) → elim room [ false ↦ Some Count | true ↦ elim known [ false ↦ Some Missing | true ↦ None ] ]
          ≡ answer (maybe.map refusal (broken ((8, room) ∷ (10, known) ∷ [])))
      both false known = refl
      both true false = refl
      both true true = refl

  abbrev pub judge : Judge room (List Bool)
  judge = record { tell = λ above. known_of cs; judge = broken_of; alike = λ sheet at above o kept own. alike above o own; few = few }
