-- The C section's room, and how its rows are judged: what is seen is what the rows above tell, and what the code makes of a row is what
-- the paper makes of it.
use Prim.Native.Nat.{◌<◌}
use mathlib.Core.Bool.{Bool, true, false}
use mathlib.Core.List.{List, [], ◌∷◌}
use mathlib.Core.Option as maybe
use mathlib.Core.Path.{◌≡◌, refl, sym, ap, ◌∙◌}
use Rattle.std.proofs.Common.{Option, Some, None}
use lib.Dec.{T, ltb}
use lib.ListN.{length}
use Rattle.paper.specs.Lists.{every}
use Rattle.paper.specs.Rows as paper
use Rattle.paper.specs.Refusals.{may_precede, class_kind}
use Rattle.paper.specs.Tables.{hold}
use Rattle.paper.proofs.Lists.{tests}
use Rattle.tables.specs.Held.{held_class, class_table}
use Rattle.tables.specs.declared.ClassRow.{ClassRow}
use Rattle.arrayvec.specs.ArrayVec.{ArrayVec}
use Rattle.answers.specs.Options.{answer}
use Rattle.answers.specs.Refusals.{refusal}
use Rattle.answers.specs.declared.Refusal.{Refusal}
use Rattle.answers.specs.declared.Refusal.TheVariants.{Count, Order}
use Rattle.sections.specs.Sections.{broken}
use Rattle.sections.proofs.Loops.{Kept, none_kept, more_kept}
use Rattle.sections.proofs.Rooms.{Room, Judge}
use Rattle.classes.specs.Seen.{seen_of, broken_of}
use Rattle.classes.specs.declared.Seen.{Seen}
use Rattle.classes.proofs.Rising.{Rising, nil, Formed, admitted, fits_all}

-- The room
abbrev pub room : Room paper.ClassRow ClassRow ClassRow (ArrayVec ClassRow)
room =
    record {
      kind = class_kind;
      letter = 67;
      its_letter = refl;
      held = λ sheet at. held_class;
      most = 40;
      kept = held_class;
      table = class_table;
    }

-- Rows that keep the rules rise
rising : {above : List paper.ClassRow} → Kept class_kind above → Rising above
rising none_kept = nil
rising (more_kept h kept) = admitted _ _ h (rising kept)

-- There was room for the last of them
pub few : {above : List paper.ClassRow} {c : paper.ClassRow} → Kept class_kind (c ∷ above) → length above < 40
few (more_kept h kept) = search tests

-- What a row's own rules say
pub formed : (c : paper.ClassRow) → T (hold (class_kind.own c)) → Formed c
formed c h = record { class = search tests; border = search tests }

-- A row is judged by what is seen as by all rows above
pub alike : (above : List paper.ClassRow) (c : paper.ClassRow) → Kept class_kind above → T (hold (class_kind.own c))
    → broken_of (seen_of above) (length above) (held_class c) ≡ answer (maybe.map refusal (broken (class_kind.others above c)))
alike above c kept own =
    ap judged (sym (fits_all above c (rising kept) (formed c own))) ∙ both (ltb (length above) 40) (every (λ a. may_precede a c) above)
  where
    judged : Bool → Option Refusal
    judged fits = elim (ltb (length above) 40) [ false ↦ Some Count | true ↦ elim fits [ false ↦ Some Order | true ↦ None ] ]

    both : (room fits : Bool) → elim room [ false ↦ Some Count | true ↦ elim fits [ false ↦ Some Order | true ↦ None ] ]
        ≡ answer (maybe.map refusal (broken ((8, room) ∷ (9, fits) ∷ [])))
    both false fits = refl
    both true false = refl
    both true true = refl

abbrev pub judge : Judge room Seen
judge = record { tell = seen_of; judge = broken_of; alike = λ sheet at above c kept own. alike above c kept own; few = few }
