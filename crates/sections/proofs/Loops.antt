-- A section read line by line, as a loop does it: how it starts, goes on, is refused, and ends. Said once, over the row kind.
use Prim.Native.Nat.{ℕ, zero, suc, ◌+◌, ◌≤◌, ◌<◌}
use native.Mathlib.Nat.{eq-or-lt_of_le}
use native.Mathlib.Nat.{add-zero, add-suc}
use native.Mathlib.Numerals.{add-one}
use native.Mathlib.Omega.{arith}
use mathlib.Core.Bool.{Bool, true, false, ◌&&◌}
use mathlib.Core.List.{List, [], ◌∷◌, ◌++◌, reverse}
use mathlib.Core.Option.{Option, none, some, some-injective}
use mathlib.Core.Logic.{⊎_elim}
use mathlib.Core.Path.{◌≡◌, refl, sym, ap, ap₂, ◌∙◌, subst}
use Rattle.std.proofs.Common.{Result, Ok, Err}
use borrow.Author.Tests.{ltb-true, ltb-false}
use lib.Dec.{T, eqb, ltb}
use lib.ListN.{length, get_or, drop, length-reverse}
use Rattle.paper.specs.Units.{Byte, Text, Fields, Line, Number}
use Rattle.paper.specs.Text.{lines}
use Rattle.paper.specs.Refusals.{Outcome, refused, accepted, Rule, judged, RowKind, rules_of}
use Rattle.paper.specs.Sheet.{Rest, begins, row, rows_from, section}
use Rattle.paper.specs.Tables.{hold}
use Rattle.paper.proofs.Lists.{both}
use Rattle.paper.proofs.Outcomes.{not_accepted, refused_one, judged_holds, judged_accepted}
use Rattle.places.specs.Places.{Place, ended_length, line_at}
use Rattle.places.proofs.Places.{line_there, no_line, unended_line, ended_most}
use Rattle.answers.specs.Refusals.{refusal}
use Rattle.answers.specs.declared.Refusal.{Refusal}
use Rattle.answers.specs.declared.Refused.{Refused}
use Rattle.sections.specs.Sections.{fields_at, goes_on, next_after, shaped, broken, read_as, section_as}

-- ---- a row in two steps

-- Rules that hold, and others behind them
hold_both : (rules more : List Rule) → T (hold rules) → T (hold more) → T (hold (rules ++ more))
hold_both [] more h k = k
hold_both ((number, true) ∷ rules) more h k = hold_both rules more h k
hold_both ((number, false) ∷ rules) more h k = elim h [ ]

-- Rules of which the first hold: the others decide
judged_behind : {R : Type 0} (at : Line) (r : R) (rules more : List Rule) → T (hold rules) → judged at r (rules ++ more) ≡ judged at r more
judged_behind at r [] more h = refl
judged_behind at r ((number, true) ∷ rules) more h = judged_behind at r rules more h
judged_behind at r ((number, false) ∷ rules) more h = elim h [ ]

-- Rules of which one fails: it is the refusal, whatever others stand behind, and whatever the line is called
judged_before : {R : Type 0} (at : Line) (r : R) (rules more : List Rule) (number line : ℕ) → judged 0 r rules ≡ refused number line
    → judged at r (rules ++ more) ≡ refused number at
judged_before at r [] more number line e = not_accepted (sym e)
judged_before at r ((n, true) ∷ rules) more number line e = judged_before at r rules more number line e
judged_before at r ((n, false) ∷ rules) more number line e = ap (λ (n : ℕ). refused n at) (refused_one e).0

-- Where no rule is broken, all hold
none_broken : (rules : List Rule) → broken rules ≡ none → T (hold rules)
none_broken [] e = tt
none_broken ((number, true) ∷ rules) e = none_broken rules e
none_broken ((number, false) ∷ rules) e = cc

-- The first that is broken is the refusal
one_broken : {R : Type 0} (at : Line) (r : R) (rules : List Rule) (number : Number) → broken rules ≡ some number → judged at r rules ≡ refused number at
one_broken at r [] number e = cc
one_broken at r ((n, true) ∷ rules) number e = one_broken at r rules number e
one_broken at r ((n, false) ∷ rules) number e = ap (λ (n : ℕ). refused n at) (some-injective n number e)

module _ {R : Type 0} (kind : RowKind R) where
  -- A row by whether it has its number of fields, and by what they read as: by itself, and with the rows above
  alone : Bool → Option R → Outcome R
  alone form o = elim form [ false ↦ refused 5 0 | true ↦ elim o [ none ↦ refused 6 0 | some r ↦ judged 0 r (kind.own r) ] ]

  among : List R → Line → Bool → Option R → Outcome R
  among above at form o =
      elim form [ false ↦ refused 5 at | true ↦ elim o [ none ↦ refused 6 at | some r ↦ judged at r (rules_of kind above r) ] ]

  -- A line with the letter that is refused by itself is refused among the rows above
  row_refused : (above : List R) (at : Line) (fs : Fields) (number line : ℕ) → begins kind.letter fs ≡ true
      → shaped kind fs ≡ refused number line → row kind above at fs ≡ refused number at
  unfolding alone among
  row_refused above at fs number line b e =
      ap (λ (t : Bool). among above at (t && eqb (length fs) kind.many) (kind.read fs)) b ∙ go (eqb (length fs) kind.many) (kind.read fs) e
    where
      go : (form : Bool) (o : Option R) → alone form o ≡ refused number line → among above at form o ≡ refused number at
      go false o e = ap (λ (n : ℕ). refused n at) (refused_one e).0
      go true none e = ap (λ (n : ℕ). refused n at) (refused_one e).0
      go true (some r) e = judged_before at r (kind.own r) (kind.others above r) number line e

  -- One that is accepted by itself is judged by the rules that look at other rows
  row_judged : (above : List R) (at : Line) (fs : Fields) (r : R) → begins kind.letter fs ≡ true
      → shaped kind fs ≡ accepted r → row kind above at fs ≡ judged at r (kind.others above r)
  unfolding alone among
  row_judged above at fs r b e =
      ap (λ (t : Bool). among above at (t && eqb (length fs) kind.many) (kind.read fs)) b ∙ go (eqb (length fs) kind.many) (kind.read fs) e
    where
      go : (form : Bool) (o : Option R) → alone form o ≡ accepted r → among above at form o ≡ judged at r (kind.others above r)
      go false o e = not_accepted e
      go true none e = not_accepted e
      go true (some q) e =
          let (one, holds) = judged_accepted 0 q r (kind.own q) e in
          judged_behind at q (kind.own q) (kind.others above q) holds ∙ ap (λ (x : R). judged at x (kind.others above x)) one

  -- Such a row keeps its own rules
  own_holds : (fs : Fields) (r : R) → shaped kind fs ≡ accepted r → T (hold (kind.own r))
  unfolding alone
  own_holds fs r e = go (eqb (length fs) kind.many) (kind.read fs) e
    where
      go : (form : Bool) (o : Option R) → alone form o ≡ accepted r → T (hold (kind.own r))
      go false o e = not_accepted e
      go true none e = not_accepted e
      go true (some q) e =
          let (one, holds) = judged_accepted 0 q r (kind.own q) e in
          subst (λ (x : R). T (hold (kind.own x))) one holds

-- ---- what was read

module _ {R H : Type 0} (held : R → H) (next : Place) where
  -- A row that was read is one that was accepted
  pub read_row : (o : Outcome R) (h : H) (n : Place) → read_as held next o ≡ Ok (h, n)
      → (r : R) × (o ≡ accepted r) × (held r ≡ h) × (next ≡ n)
  read_row (refused number line) h n e = cc
  read_row (accepted r) h n e =
      let same : (h, n) ≡ (held r, next) = cc in
      (r, refl, ap (λ (p : H × Place). p.0) (sym same), ap (λ (p : H × Place). p.1) (sym same))

  -- A refusal that was answered is the refusal
  pub read_refused : (o : Outcome R) (f : Refusal) → read_as held next o ≡ Err f
      → (number : Number) × (line : Line) × (o ≡ refused number line) × (refusal number ≡ f)
  read_refused (refused n line) f e = (n, line, refl, cc)
  read_refused (accepted r) f e = cc

-- ---- the loop

-- Rows, the nearest first, each of which keeps the rules with those behind it
pub data Kept {R : Type 0} (kind : RowKind R) : List R → Type 0 where
  none_kept : Kept kind []
  more_kept : {r : R} {above : List R} → T (hold (rules_of kind above r)) → Kept kind above → Kept kind (r ∷ above)

-- The next line behind so many
next_more : (sheet : Text) (from : Place) (n : ℕ) → (line_at sheet (next_after sheet from n)).next ≡ next_after sheet from (suc n)
next_more sheet from zero = refl
next_more sheet from (suc n) = next_more sheet (line_at sheet from).next n

-- A line that a section takes: it stands before the end, and the next is further on
pub goes_before : (sheet : Text) (at end : Place) (letter : Byte) → goes_on sheet at end letter ≡ true → at < end
goes_before sheet at end letter on = ltb-true at end (both (ltb at end) (begins (letter ∷ []) (fields_at sheet at)) on).0

module _ {R : Type 0} (kind : RowKind R) (sheet : Text) (from : Place) (first : Line) where
  -- What the section gives, whose first row would be on a line
  abbrev pub whole : Outcome (List R × Rest)
  whole = section kind (first, lines (drop from sheet))

  -- After so many rows, at the line behind them: they keep the rules, and the section goes on from there
  pub record Going (above : List R) (count : ℕ) (at : Place) : Type 0 where
    pub so_far : whole ≡ rows_from kind above (first + count) (lines (drop at sheet))
    pub counted : count ≡ length above
    pub placed : at ≡ next_after sheet from count
    pub within : at ≤ ended_length sheet
    pub kept : Kept kind above

  -- At the start
  pub going_start : from ≤ ended_length sheet → Going [] 0 from
  going_start h = record { so_far = ap (λ (n : Line). rows_from kind [] n (lines (drop from sheet))) (sym (add-zero first)); counted = refl; placed = refl; within = h; kept = none_kept }

module _ {R : Type 0} (kind : RowKind R) (letter : Byte) (its_letter : kind.letter ≡ letter ∷ [])
    {sheet : Text} {from : Place} {first : Line} {above : List R} {count : ℕ} {at : Place} (g : Going kind sheet from first above count at) where
  module _ (on : goes_on sheet at (ended_length sheet) letter ≡ true) where
    -- The line that the section takes
    begun : begins kind.letter (fields_at sheet at) ≡ true
    begun =
        ap (λ (t : Text). begins t (fields_at sheet at)) its_letter
        ∙ (both (ltb at (ended_length sheet)) (begins (letter ∷ []) (fields_at sheet at)) on).1

    taken_line_lem : (lines (drop at sheet) ≡ fields_at sheet at ∷ lines (drop (line_at sheet at).next sheet))
        × (at < (line_at sheet at).next) × ((line_at sheet at).next ≤ ended_length sheet)
    taken_line_lem =
        let l = line_there sheet at (goes_before sheet at (ended_length sheet) letter on) in
        let first : fields_at sheet at ≡ l.fields = ap (λ (fss : List Fields). get_or fss 0 []) l.read in
        (l.read ∙ ap (λ (fs : Fields). fs ∷ lines (drop (line_at sheet at).next sheet)) (sym first), l.further, l.most)

    -- What it is judged to be is what the section does
    refusing : (number : ℕ) → row kind above (first + count) (fields_at sheet at) ≡ refused number (first + count) → whole kind sheet from first ≡ refused number (first + count)
    unfolding rows_from
    refusing number e = g.so_far ∙ ap (rows_from kind above (first + count)) taken_line_lem.0 ∙ rw (begun, e, rows_from)

    -- A line that is refused by itself refuses the section
    going_refused : (number line : ℕ) → shaped kind (fields_at sheet at) ≡ refused number line → whole kind sheet from first ≡ refused number (first + count)
    going_refused number line e = refusing number (row_refused kind above (first + count) (fields_at sheet at) number line begun e)

    -- A row that breaks a rule on other rows does
    pub going_broken : (r : R) → shaped kind (fields_at sheet at) ≡ accepted r → (number : Number) → broken (kind.others above r) ≡ some number
        → whole kind sheet from first ≡ refused number (first + count)
    going_broken r e number breaks =
        refusing number (row_judged kind above (first + count) (fields_at sheet at) r begun e ∙ one_broken (first + count) r (kind.others above r) number breaks)

    -- One that breaks none is a row more
    pub going_on : (r : R) → shaped kind (fields_at sheet at) ≡ accepted r → broken (kind.others above r) ≡ none
        → Going kind sheet from first (r ∷ above) (count + 1) (line_at sheet at).next
    unfolding rows_from
    going_on r e unbroken =
        let (split, further, inside) = taken_line_lem in
        let is = row_judged kind above (first + count) (fields_at sheet at) r begun e in
        let own = own_holds kind (fields_at sheet at) r e in
        let others = none_broken (kind.others above r) unbroken in
        record {
          so_far = g.so_far ∙ ap (rows_from kind above (first + count)) split ∙ rw (begun, is ∙ judged_holds (first + count) r (kind.others above r) others, rows_from, add-one, add-suc);
          counted = omega (arith, g.counted);
          placed =
              ap (λ (p : Place). (line_at sheet p).next) g.placed ∙ next_more sheet from count
              ∙ ap (next_after sheet from) (sym (add-one count));
          within = inside;
          kept = more_kept (hold_both (kind.own r) (kind.others above r) own others) g.kept;
        }

    -- The next line is further on
    pub going_further : (at < (line_at sheet at).next) × ((line_at sheet at).next ≤ ended_length sheet)
    going_further = (taken_line_lem.1, taken_line_lem.2)

  -- Where the section does not go on, it has its rows
  pub going_ended : goes_on sheet at (ended_length sheet) letter ≡ false
      → whole kind sheet from first ≡ accepted (reverse above, (first + count, lines (drop at sheet)))
  unfolding rows_from
  going_ended off = go (ltb at (ended_length sheet)) refl
    where
      from_lines : (fss : List Fields) → lines (drop at sheet) ≡ fss → rows_from kind above (first + count) fss ≡ accepted (reverse above, (first + count, fss))
          → whole kind sheet from first ≡ accepted (reverse above, (first + count, lines (drop at sheet)))
      from_lines fss split stopped =
          g.so_far ∙ ap (rows_from kind above (first + count)) split ∙ stopped
          ∙ ap (λ (l : List Fields). accepted (reverse above, (first + count, l))) (sym split)

      go : (t : Bool) → ltb at (ended_length sheet) ≡ t → whole kind sheet from first ≡ accepted (reverse above, (first + count, lines (drop at sheet)))
      go true t =
          let l = line_there sheet at (ltb-true at (ended_length sheet) t) in
          let first : fields_at sheet at ≡ l.fields = ap (λ (fss : List Fields). get_or fss 0 []) l.read in
          let other : begins kind.letter l.fields ≡ false =
          ap (λ (k : Text). begins k l.fields) its_letter ∙ ap (begins (letter ∷ [])) (sym first)
          ∙ ap (λ (b : Bool). b && begins (letter ∷ []) (fields_at sheet at)) (sym t) ∙ off
          in
          from_lines (l.fields ∷ lines (drop (line_at sheet at).next sheet)) l.read (rw (other, rows_from))
      go false t =
          let last : at ≡ ended_length sheet = omega (arith, ltb-false at (ended_length sheet) t, g.within) in
          ⊎_elim
          (λ all. from_lines [] (no_line sheet at last (last ∙ all)) refl)
          (λ less. from_lines ([] ∷ []) (unended_line sheet at last (subst (λ (n : ℕ). n < length sheet) (sym last) less)) (rw (its_letter, rows_from)))
          (eq-or-lt_of_le (ended_most sheet))

-- ---- a line, as the code reads it

module _ {R H : Type 0} (kind : RowKind R) (letter : Byte) (its_letter : kind.letter ≡ letter ∷ []) (held : R → H)
    {sheet : Text} {from : Place} {first : Line} {above : List R} {count : ℕ} {at : Place} (g : Going kind sheet from first above count at)
    (on : goes_on sheet at (ended_length sheet) letter ≡ true) where
  -- What the line is read as
  abbrev pub line : Result (H × Place) Refusal
  line = read_as held (line_at sheet at).next (shaped kind (fields_at sheet at))

  -- A refusal refuses the section
  pub line_refused : (f : Refusal) → line ≡ Err f → (number : Number) × (whole kind sheet from first ≡ refused number (first + count)) × (refusal number ≡ f)
  line_refused f e =
      let (number, n, shape, is) = read_refused held (line_at sheet at).next (shaped kind (fields_at sheet at)) f e in
      (number, going_refused kind letter its_letter g on number n shape, is)

  -- A row is one of the paper's, which keeps its own rules; it refuses the section by a rule on other rows that it breaks, and
  -- where it breaks none the section goes on from the next line
  pub record LineRow (h : H) (next : Place) : Type 0 where
    pub row_is : R
    pub held_is : held row_is ≡ h
    pub own : T (hold (kind.own row_is))
    pub refuses : (number : Number) → broken (kind.others above row_is) ≡ some number → whole kind sheet from first ≡ refused number (first + count)
    pub goes : broken (kind.others above row_is) ≡ none → Going kind sheet from first (row_is ∷ above) (count + 1) next
    pub further : (at < next) × (next ≤ ended_length sheet)

  pub line_row : (h : H) (next : Place) → line ≡ Ok (h, next) → LineRow h next
  line_row h next e =
      let (r, shape, is, behind) = read_row held (line_at sheet at).next (shaped kind (fields_at sheet at)) h next e in
      subst (LineRow h) behind
      (record {
        row_is = r;
        held_is = is;
        own = own_holds kind (fields_at sheet at) r shape;
        refuses = going_broken kind letter its_letter g on r shape;
        goes = going_on kind letter its_letter g on r shape;
        further = going_further kind letter its_letter g on;
      })

-- ---- how the section went, as the code says it

module _ {R T : Type 0} (kind : RowKind R) (sheet : Text) (from : Place) (first : Line) (table : List R → T) where
  -- What the section answers
  abbrev pub result : Result (T × Place) Refused
  result = section_as table sheet from (whole kind sheet from first)

  -- Refused
  pub result_refused : (number at : ℕ) → whole kind sheet from first ≡ refused number at
      → Err (record { refusal = refusal number; line = at }) ≡ result
  result_refused number at e = ap (section_as table sheet from) (sym e)

  -- Read to its end
  pub result_ended : {above : List R} {count : ℕ} {at : Place} → Going kind sheet from first above count at
      → whole kind sheet from first ≡ accepted (reverse above, (first + count, lines (drop at sheet)))
      → (t : T) → t ≡ table (reverse above) → Ok (t, at) ≡ result
  result_ended {above} {count} {at} g e t is =
      let many : count ≡ length (reverse above) = g.counted ∙ sym (length-reverse above) in
      let next_line : at ≡ next_after sheet from (length (reverse above)) = g.placed ∙ ap (next_after sheet from) many in
      ap₂ (λ (t : T) (p : Place). Ok (t, p)) is next_line ∙ ap (section_as table sheet from) (sym e)
