-- A section's loop, turn by turn: the table has the rows above, a line that is refused refuses the section, and a row that breaks no
-- rule is put into the table. Said once, over what a section's room has.
use Prim.Native.Nat.{ℕ, ◌+◌, ◌≤◌, ◌<◌}
use native.Mathlib.Omega.{arith}
use mathlib.Core.Bool.{Bool, true, false}
use mathlib.Core.List.{List, [], ◌∷◌, ◌++◌, map, map-append, reverse, reverse-cons}
use mathlib.Core.Option as maybe
use mathlib.Core.Option.{none, some}
use mathlib.Core.Path.{◌≡◌, refl, sym, ap, ap₂, ◌∙◌, subst}
use Rattle.std.proofs.Common.{Option, Some, None, Result, Ok, Err}
use lib.Dec as dec
use lib.ListN.{length, length-append}
use Rattle.paper.specs.Units.{Byte, Text, Line}
use Rattle.paper.specs.Refusals.{RowKind}
use Rattle.paper.specs.Tables.{hold}
use Rattle.places.specs.Places.{Place, ended_length, line_at}
use Rattle.answers.specs.Options.{answer}
use Rattle.answers.specs.Refusals.{refusal}
use Rattle.answers.specs.declared.Refusal.{Refusal}
use Rattle.answers.specs.declared.Refused.{Refused}
use Rattle.sections.specs.Sections.{fields_at, goes_on, shaped, broken, read_as}
use Rattle.sections.proofs.Loops as loops
use Rattle.sections.proofs.Loops.{Kept, none_kept, more_kept, Going, going_start, going_ended, line_refused, LineRow, line_row, result_refused, result_ended}

-- What a section's room has: its row kind, with its letter as a byte; how a row of the line at a place is held; and how it is kept in
-- a table that has room for so many
pub record Room (R H K T : Type 0) : Type 0 where
  pub kind : RowKind R
  pub letter : Byte
  pub its_letter : kind.letter ≡ letter ∷ []
  pub held : Text → Place → R → H
  pub most : ℕ
  pub kept : R → K
  pub table : List R → T

module _ {R H K T : Type 0} (room : Room R H K T) where
  -- What the section answers
  abbrev pub result : Text → Place → Line → Result (T × Place) Refused
  result sheet from first = loops.result room.kind sheet from first room.table

  -- What the line at a place is read as
  abbrev pub read_at : Text → Place → Result (H × Place) Refusal
  read_at sheet at = read_as (room.held sheet at) (line_at sheet at).next (shaped room.kind (fields_at sheet at))

  -- After the rows that the table has
  pub record Turn (sheet : Text) (from : Place) (first : Line) (rows : List K) (at : Place) : Type 0 where
    pub above : List R
    pub going : Going room.kind sheet from first above (length rows) at
    pub table_is : rows ≡ map room.kept (reverse above)

  abbrev pub turn_start : (sheet : Text) (from : Place) (first : Line) → from ≤ ended_length sheet → Turn sheet from first [] from
  turn_start sheet from first h = record { above = []; going = going_start room.kind sheet from first h; table_is = refl }

  module _ {sheet : Text} {from : Place} {first : Line} {rows : List K} {at : Place} (t : Turn sheet from first rows at) where
    module _ (on : goes_on sheet at (ended_length sheet) room.letter ≡ true) where
      -- A line that is refused by itself refuses the section
      pub turn_refused : (f : Refusal) → read_at sheet at ≡ Err f → Err (record { refusal = f; line = first + length rows }) ≡ result sheet from first
      turn_refused f e =
          let (number, stopped, is) = line_refused room.kind room.letter room.its_letter (room.held sheet at) t.going on f e in
          subst (λ (f : Refusal). Err (record { refusal = f; line = first + length rows }) ≡ result sheet from first) is
          (result_refused room.kind sheet from first room.table number (first + length rows) stopped)

      -- A row that was read is one of the paper's
      abbrev pub Read : H → Place → Type 0
      Read = LineRow room.kind room.letter room.its_letter (room.held sheet at) t.going on

      pub turn_row : (h : H) (next : Place) → read_at sheet at ≡ Ok (h, next) → Read h next
      turn_row = line_row room.kind room.letter room.its_letter (room.held sheet at) t.going on

      -- It is judged by its rules on other rows
      module _ {h : H} {next : Place} (r : Read h next) where
        pub turn_broken : (number : ℕ) → broken (room.kind.others t.above r.row_is) ≡ some number
            → Err (record { refusal = refusal number; line = first + length rows }) ≡ result sheet from first
        turn_broken number breaks = result_refused room.kind sheet from first room.table number (first + length rows) (r.refuses number breaks)

        module _ (clear : broken (room.kind.others t.above r.row_is) ≡ none) where
          pub turn_going : Going room.kind sheet from first (r.row_is ∷ t.above) (length rows + 1) next
          turn_going = r.goes clear

          -- Where it breaks none, it keeps all with the rows above, and is put into the table
          pub turn_kept : Kept room.kind (r.row_is ∷ t.above)
          turn_kept = turn_going.kept

          abbrev pub turn_more : {k : K} → k ≡ room.kept r.row_is → Turn sheet from first (rows ++ (k ∷ [])) next
          turn_more {k} e =
              let longer : length rows + 1 ≡ length (rows ++ (k ∷ [])) = sym (length-append rows (k ∷ [])) in
              record {
                above = r.row_is ∷ t.above;
                going = subst (λ (n : ℕ). Going room.kind sheet from first (r.row_is ∷ t.above) n next) longer turn_going;
                table_is =
                    ap₂ (λ (l : List K) (k : K). l ++ (k ∷ [])) t.table_is e
                    ∙ sym (map-append room.kept (reverse t.above) (r.row_is ∷ [])) ∙ ap (map room.kept) (sym (reverse-cons r.row_is t.above));
              }

    -- The end of the section
    pub turn_ended : goes_on sheet at (ended_length sheet) room.letter ≡ false → {x : T} → x ≡ room.table (reverse t.above)
        → Ok (x, at) ≡ result sheet from first
    turn_ended off {x} is =
        result_ended room.kind sheet from first room.table t.going (going_ended room.kind room.letter room.its_letter t.going off) x is

-- What a section keeps of the rows above, and how the code judges a row by it: as the paper does, and no more rows than there is room for
pub record Judge {R H K T : Type 0} (room : Room R H K T) (Z : Type 0) : Type 0 where
  pub tell : List R → Z
  pub judge : Z → ℕ → H → Option Refusal
  pub alike : (sheet : Text) (at : Place) (above : List R) (r : R) → Kept room.kind above → dec.T (hold (room.kind.own r))
      → judge (tell above) (length above) (room.held sheet at r) ≡ answer (maybe.map refusal (broken (room.kind.others above r)))
  pub few : {above : List R} {r : R} → Kept room.kind (r ∷ above) → length above < room.most

-- A refusal that was answered is that of a number; where none was, there is no number
refusal_some : (o : maybe.Option ℕ) (f : Refusal) → answer (maybe.map refusal o) ≡ Some f → (number : ℕ) × (o ≡ some number) × (refusal number ≡ f)
refusal_some none f e = cc
refusal_some (some n) f e = (n, refl, cc)

refusal_none : (o : maybe.Option ℕ) → answer (maybe.map refusal o) ≡ None → o ≡ none
refusal_none none e = refl
refusal_none (some n) e = cc

module _ {R H K T Z : Type 0} {room : Room R H K T} (judge : Judge room Z) where
  -- Rows that keep the rules
  kept_most : {above : List R} → Kept room.kind above → length above ≤ room.most
  kept_most none_kept = omega arith
  kept_most (more_kept h kept) = judge.few (more_kept h kept)

  -- After so many rows, with what is kept of them
  pub record Judging (sheet : Text) (from : Place) (first : Line) (rows : List K) (at : Place) (seen : Z) : Type 0 where
    pub turn : Turn room sheet from first rows at
    pub seen_is : seen ≡ judge.tell turn.above

  module _ {sheet : Text} {from : Place} {first : Line} {rows : List K} {at : Place} {seen : Z} (t : Judging sheet from first rows at seen) where
    -- No more than there is room for
    pub judging_most : length rows ≤ room.most
    judging_most = omega (arith, t.turn.going.counted, kept_most t.turn.going.kept)

    -- A row that was read, and what becomes of it as it is judged
    pub record Taken (h : H) (next : Place) : Type 0 where
      pub row_is : R
      pub held_is : room.held sheet at row_is ≡ h
      pub own : dec.T (hold (room.kind.own row_is))
      pub further : (at < next) × (next ≤ ended_length sheet)
      pub refuses : (f : Refusal) → judge.judge seen (length rows) h ≡ Some f → Err (record { refusal = f; line = first + length rows }) ≡ result room sheet from first
      pub free : judge.judge seen (length rows) h ≡ None → length rows < room.most
      pub more : judge.judge seen (length rows) h ≡ None → (k : K) → k ≡ room.kept row_is
          → (z : Z) → z ≡ judge.tell (row_is ∷ t.turn.above) → Judging sheet from first (rows ++ (k ∷ [])) next z

    -- A refusal is on the line behind those of the rows
    refused_line : (f : Refusal) {n : ℕ} → n ≡ length rows
        → ◌≡◌ {A = Result (T × Place) Refused} (Err (record { refusal = f; line = first + n })) (Err (record { refusal = f; line = first + length rows }))
    refused_line f many = ap (λ (n : ℕ). Err (record { refusal = f; line = first + n })) many

    -- What the code's judgment of a row means, where it is told how many rows there are
    module _ {h : H} {next : Place} (r : Taken h next) {n : ℕ} (many : n ≡ length rows) {o : Option Refusal} (judged : o ≡ judge.judge seen n h) where
      same : judge.judge seen (length rows) h ≡ o
      same = ap (λ (n : ℕ). judge.judge seen n h) (sym many) ∙ sym judged

      pub judging_broken : {f : Refusal} → o ≡ Some f → {m : ℕ} → m ≡ length rows → Err (record { refusal = f; line = first + m }) ≡ result room sheet from first
      judging_broken {f} e line = refused_line f line ∙ r.refuses f (same ∙ e)

      pub judging_room : o ≡ None → length rows < room.most
      judging_room e = r.free (same ∙ e)

      pub judging_more : o ≡ None → {k : K} → k ≡ room.kept r.row_is → {z : Z} → z ≡ judge.tell (r.row_is ∷ t.turn.above)
          → {more : List K} → more ≡ rows ++ (k ∷ []) → Judging sheet from first more next z
      judging_more e {k} keeps {z} tells longer = rw longer (r.more (same ∙ e) k keeps z tells)

    -- By what the loop's test says
    module _ {end : Place} (ends : end ≡ ended_length sheet) {on : Bool} (goes : on ≡ goes_on sheet at end room.letter) where
      tested : goes_on sheet at (ended_length sheet) room.letter ≡ on
      tested = ap (λ (n : Place). goes_on sheet at n room.letter) (sym ends) ∙ sym goes

      pub judging_ended : on ≡ false → {x : T} → x ≡ room.table (reverse t.turn.above) → Ok (x, at) ≡ result room sheet from first
      judging_ended off = turn_ended room t.turn (tested ∙ off)

      module _ (yes : on ≡ true) {read : Result (H × Place) Refusal} (is : read ≡ read_at room sheet at) where
        pub judging_refused : {f : Refusal} → read ≡ Err f → {n : ℕ} → n ≡ length rows → Err (record { refusal = f; line = first + n }) ≡ result room sheet from first
        judging_refused {f} e many = refused_line f many ∙ turn_refused room t.turn (tested ∙ yes) f (sym is ∙ e)

        pub judging_row : {h : H} {next : Place} → read ≡ Ok (h, next) → Taken h next
        judging_row {h} {next} e =
            let r = turn_row room t.turn (tested ∙ yes) h next (sym is ∙ e) in
            let same : judge.judge seen (length rows) h ≡ answer (maybe.map refusal (broken (room.kind.others t.turn.above r.row_is))) =
            (λ i. judge.judge (t.seen_is i) (t.turn.going.counted i) (sym r.held_is i)) ∙ judge.alike sheet at t.turn.above r.row_is t.turn.going.kept r.own
            in
            let clear : judge.judge seen (length rows) h ≡ None → broken (room.kind.others t.turn.above r.row_is) ≡ none = λ n. refusal_none _ (sym same ∙ n) in
            let room_for : judge.judge seen (length rows) h ≡ None → length rows < room.most = λ n.
            omega (arith, t.turn.going.counted, judge.few (turn_kept room t.turn (tested ∙ yes) r (clear n)))
            in
            record {
              row_is = r.row_is;
              held_is = r.held_is;
              own = r.own;
              further = r.further;
              refuses = λ f j.
                  let (number, breaks, is) = refusal_some _ f (sym same ∙ j) in
                  subst (λ (f : Refusal). Err (record { refusal = f; line = first + length rows }) ≡ result room sheet from first) is
                  (turn_broken room t.turn (tested ∙ yes) r number breaks);
              free = room_for;
              more = λ n k keeps z tells.
                  record { turn = turn_more room t.turn (tested ∙ yes) r (clear n) keeps; seen_is = tells };
            }
