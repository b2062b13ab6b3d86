-- The D row by its two fields: the letter, and a field that an LF ends.
use Prim.Native.Nat.{ℕ, ◌+◌, ◌≤◌, ◌<◌}
use native.Mathlib.Nat.{eq-or-lt_of_le}
use native.Mathlib.Omega.{arith}
use mathlib.Core.Bool.{Bool, true, false, cond, ◌&&◌}
use mathlib.Core.List.{List, [], ◌∷◌, ◌++◌, append_assoc}
use mathlib.Core.Logic.{⊎_elim}
use mathlib.Core.Option as paper
use mathlib.Core.Option.{none, some}
use mathlib.Core.Path.{◌≡◌, refl, sym, ap, ap₂, ◌∙◌}
use borrow.Author.Tests.{eqb-true, lt-leb, le-leb}
use Rattle.std.proofs.Common.{Some, None, Result, Ok, Err}
use lib.Dec.{eqb, leb}
use lib.ListN.{length, get_or, take, drop, take-append-drop}
use lib.Seq.{drop-drop, drop-append-add}
use Rattle.paper.specs.Units.{Text, Fields, Date, Day}
use Rattle.paper.specs.Lists.{given, every}
use Rattle.paper.specs.Days.{day_of, day, is_day}
use Rattle.paper.specs.Text.{LF, semicolon, ascii, same, lines, line_of, date_in}
use Rattle.paper.specs.Rows.{field}
use Rattle.paper.specs.Refusals.{Outcome, refused, accepted, judged, date_kind}
use Rattle.paper.specs.Sheet.{begins, row}
use Rattle.paper.proofs.Lists.{both, never, every_step, every_cons}
use Rattle.paper.proofs.Lines.{plain, line_first}
use Rattle.paper.proofs.Order.{same_true}
use Rattle.places.specs.Places.{Place, ended_length, line_at}
use Rattle.places.proofs.Places.{ended_append, ended_drop, ended_most, line_there, no_line, unended_line}
use Rattle.answers.specs.Options.{answer}
use Rattle.answers.specs.Refusals.{refusal}
use Rattle.answers.specs.declared.Refusal.{Refusal}
use Rattle.sections.specs.Sections.{fields_at, read_as}
use Rattle.head.specs.Fields.{field_length, handed_out, behind_field, two_fields}
use Rattle.head.specs.Read.{date_read}
use Rattle.head.proofs.Fields.{handed_size, field_ended, field_handed, ended_by}

-- Line 2: `D`, `;`, a date and LF
pub record DateLine (sheet : Text) : Type 0 where
  pub date : Text
  pub rest : Text
  pub whole : drop 6 sheet ≡ 68 ∷ semicolon ∷ (date ++ (LF ∷ rest))
  pub marks : every plain date ≡ true

-- ---- where the reader finds it

module _ (sheet : Text) (l : DateLine sheet) where
  behind_letter : drop 8 sheet ≡ l.date ++ (LF ∷ l.rest)
  behind_letter = sym (drop-drop 2 6 sheet) ∙ ap (drop 2) l.whole

  second_there : behind_field sheet 6 ≡ 8
  second_there = ap (λ (t : Text). 6 + field_length t) l.whole

  behind_there : two_fields sheet 6 ≡ 9 + length l.date
  behind_there =
      ap (behind_field sheet) second_there
      ∙ omega (arith, ap field_length behind_letter, field_ended l.date l.rest l.marks)

  -- What is handed out of it: its letter, and its date
  pub letter_there : handed_out sheet 6 ≡ ascii "D;"
  letter_there = ap (λ (t : Text). take (field_length t) t) l.whole

  pub date_there : handed_out sheet (behind_field sheet 6) ≡ l.date ++ (LF ∷ [])
  date_there =
      ap (handed_out sheet) second_there
      ∙ ap (λ (t : Text). take (field_length t) t) behind_letter
      ∙ field_handed l.date l.rest l.marks

  -- ---- what the paper reads there

  rest_there : drop (two_fields sheet 6) sheet ≡ l.rest
  rest_there =
      let place : two_fields sheet 6 ≡ 8 + (length l.date + 1) = omega (arith, behind_there) in
      ap (λ (k : ℕ). drop k sheet) place
      ∙ sym (drop-drop (length l.date + 1) 8 sheet)
      ∙ ap (drop (length l.date + 1)) behind_letter
      ∙ drop-append-add l.date (LF ∷ l.rest) 1

  pub lines_there : lines (drop 6 sheet) ≡ (ascii "D" ∷ l.date ∷ []) ∷ lines (drop (two_fields sheet 6) sheet)
  lines_there =
      ap (λ (t : Text). lines t) (l.whole ∙ ap (λ (t : Text). 68 ∷ semicolon ∷ t) (sym (append_assoc l.date (LF ∷ []) l.rest)))
      ∙ line_first (ascii "D" ∷ l.date ∷ []) l.rest (rw (every_step (every plain) l.date [], l.marks))
      ∙ ap (λ (t : Text). (ascii "D" ∷ l.date ∷ []) ∷ lines t) (sym rest_there)

  pub within_there : 6 ≤ ended_length sheet → two_fields sheet 6 ≤ ended_length sheet
  within_there h =
      omega (
        arith,
        behind_there,
        ended_drop sheet 6 h,
        ap ended_length l.whole,
        ended_append (68 ∷ semicolon ∷ l.date) l.rest,
      )

-- ---- a D row that the reader finds

module _ (sheet date : Text) (letter : handed_out sheet 6 ≡ ascii "D;") (dated : handed_out sheet (behind_field sheet 6) ≡ date ++ (LF ∷ [])) where
  behind_found : (drop 8 sheet ≡ date ++ (LF ∷ drop (field_length (drop 8 sheet)) (drop 8 sheet))) × (every plain date ≡ true)
  behind_found = ended_by (drop 8 sheet) date (ap (handed_out sheet) (sym (handed_size sheet 6 letter)) ∙ dated)

  whole_found : drop 6 sheet ≡ 68 ∷ semicolon ∷ (date ++ (LF ∷ drop (field_length (drop 8 sheet)) (drop 8 sheet)))
  whole_found =
      let size : field_length (drop 6 sheet) ≡ 2 = omega (arith, handed_size sheet 6 letter) in
      sym (take-append-drop (field_length (drop 6 sheet)) (drop 6 sheet))
      ∙ ap₂ (λ (t u : Text). t ++ u) letter (ap (λ (n : ℕ). drop n (drop 6 sheet)) size ∙ drop-drop 2 6 sheet ∙ behind_found.0)

  abbrev found : DateLine sheet
  found =
      record {
        date = date;
        rest = drop (field_length (drop 8 sheet)) (drop 8 sheet);
        whole = whole_found;
        marks = behind_found.1;
      }

-- ---- and one that the paper does

-- The letter, and two fields with it
abbrev has_form : Fields → Bool
has_form fs = begins (ascii "D") fs && eqb (length fs) 2

pub formed : (sheet : Text) → 6 ≤ ended_length sheet → has_form (fields_at sheet 6) ≡ true → DateLine sheet
formed sheet h e = ⊎_elim no_line_there line_is (eq-or-lt_of_le h)
  where
    blank : (fss : List Fields) → lines (drop 6 sheet) ≡ fss → get_or fss 0 [] ≡ [] → DateLine sheet
    blank fss k n = never (sym (ap has_form (ap (λ (l : List Fields). get_or l 0 []) k ∙ n)) ∙ e)

    no_line_there : 6 ≡ ended_length sheet → DateLine sheet
    no_line_there last =
        ⊎_elim (λ all. blank [] (no_line sheet 6 last (last ∙ all)) refl)
        (λ less. blank ([] ∷ []) (unended_line sheet 6 last (omega arith)) refl)
        (eq-or-lt_of_le (ended_most sheet))

    go : (fs : Fields) (r : Text) → drop 6 sheet ≡ line_of fs ++ r → every (every plain) fs ≡ true → has_form fs ≡ true → DateLine sheet
    go [] r w m k = never k
    go (a ∷ []) r w m k = never (both (same (ascii "D") a) false k).1
    go (a ∷ f ∷ []) r w m k =
        let letter : ascii "D" ≡ a = same_true (ascii "D") a (both (same (ascii "D") a) true k).0 in
        record {
          date = f;
          rest = r;
          whole =
              w
              ∙ ap (λ (t : Text). line_of (t ∷ f ∷ []) ++ r) (sym letter)
              ∙ ap (λ (t : Text). 68 ∷ semicolon ∷ t) (append_assoc f (LF ∷ []) r);
          marks = (every_cons (every plain) f [] (every_cons (every plain) a (f ∷ []) m).1).0;
        }
    go (a ∷ f ∷ g ∷ fs) r w m k =
        absurd (omega (arith, eqb-true (length (a ∷ f ∷ g ∷ fs)) 2 (both (same (ascii "D") a) (eqb (length (a ∷ f ∷ g ∷ fs)) 2) k).1))

    line_is : 6 < ended_length sheet → DateLine sheet
    line_is less =
        let l = line_there sheet 6 less in
        go l.fields (drop (line_at sheet 6).next sheet) l.written l.all_plain
        (sym (ap (λ (fss : List Fields). has_form (get_or fss 0 [])) l.read) ∙ e)

-- ---- the row, by whether it has its form and its date is good

abbrev is_good : Fields → Bool
is_good fs = is_day (date_in (field 1 fs)) && leb (date_in (field 1 fs)) 23_991_220

abbrev row_by : Date → Bool → Bool → Outcome Date
row_by d form good = elim form [ false ↦ refused 5 2 | true ↦ judged 2 d ((7, good) ∷ []) ]

abbrev told_by : Text → Outcome Date → Result (Day × Place) Refusal
told_by sheet = read_as day (two_fields sheet 6)

-- Without its form the row is refused
pub not_formed : (sheet : Text) → (has_form (fields_at sheet 6) ≡ true → ⊥) → Err (refusal 5) ≡ date_read sheet
not_formed sheet = go (has_form (fields_at sheet 6))
  where
    go : (form : Bool) → (form ≡ true → ⊥)
        → Err (refusal 5) ≡ told_by sheet (row_by (date_in (field 1 (fields_at sheet 6))) form (is_good (fields_at sheet 6)))
    go true other = absurd (other refl)
    go false other = refl

-- One that is accepted has it
pub accepted_formed : (fs : Fields) (d : Date) → row date_kind [] 2 fs ≡ accepted d → has_form fs ≡ true
accepted_formed fs d = go (has_form fs)
  where
    go : (form : Bool) → row_by (date_in (field 1 fs)) form (is_good fs) ≡ accepted d → form ≡ true
    go true e = refl
    go false e = let z : ◌≡◌ {A = ℕ} 0 1 = cc in absurd (omega arith)

-- And one that is refused is on line 2
pub refused_line : (fs : Fields) (number line : ℕ) → row date_kind [] 2 fs ≡ refused number line → line ≡ 2
refused_line fs number line = go (has_form fs) (is_good fs)
  where
    go : (form good : Bool) → row_by (date_in (field 1 fs)) form good ≡ refused number line → line ≡ 2
    go false good e = cc
    go true false e = cc
    go true true e = let z : ◌≡◌ {A = ℕ} 0 1 = cc in absurd (omega arith)

-- One that the reader finds is told by its date
module _ (sheet date : Text) (letter : handed_out sheet 6 ≡ ascii "D;") (dated : handed_out sheet (behind_field sheet 6) ≡ date ++ (LF ∷ [])) where
  abbrev early : Bool
  early = leb (date_in date) 23_991_220

  abbrev by_test : Bool → Day → Result (Day × Place) Refusal
  by_test good d = cond good (Ok (d, two_fields sheet 6)) (Err (refusal 7))

  told_there : date_read sheet ≡ by_test (is_day (date_in date) && early) (day (date_in date))
  told_there =
      ap (λ (fss : List Fields). told_by sheet (row date_kind [] 2 (get_or fss 0 []))) (lines_there sheet (found sheet date letter dated))
      ∙ go (is_good (ascii "D" ∷ date ∷ []))
    where
      go : (b : Bool) → told_by sheet (row_by (date_in date) true b) ≡ by_test b (day (date_in date))
      go true = refl
      go false = refl

  -- Too late a date is refused, and one that is no day
  pub told_late : 23_991_220 < date_in date → Err (refusal 7) ≡ date_read sheet
  told_late late = sym (told_there ∙ rw (lt-leb (date_in date) 23_991_220 late) (go (is_day (date_in date))))
    where
      go : (b : Bool) → by_test (b && false) (day (date_in date)) ≡ Err (refusal 7)
      go true = refl
      go false = refl

  pub told_none : answer (day_of (date_in date)) ≡ None → Err (refusal 7) ≡ date_read sheet
  told_none e = sym (told_there ∙ go (day_of (date_in date)) e)
    where
      go : (o : paper.Option Day) → answer o ≡ None → by_test (given o && early) (paper.get_or o 0) ≡ Err (refusal 7)
      go none e = refl
      go (some d) e = cc

  -- Any other is read
  pub told_some : {today : Day} → date_in date ≤ 23_991_220 → answer (day_of (date_in date)) ≡ Some today → Ok (today, two_fields sheet 6) ≡ date_read sheet
  told_some {today} h e = sym (told_there ∙ go (day_of (date_in date)) e)
    where
      go : (o : paper.Option Day) → answer o ≡ Some today → by_test (given o && early) (paper.get_or o 0) ≡ Ok (today, two_fields sheet 6)
      go none e = cc
      go (some d) e =
          let same : d ≡ today = cc in
          ap (λ (b : Bool). by_test b d) (le-leb (date_in date) 23_991_220 h) ∙ ap (λ (d : Day). Ok (d, two_fields sheet 6)) same
