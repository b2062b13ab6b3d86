-- One section after another, by the places where they start: where a section is refused, and where the next goes on from it. Said
-- once, over the row kind.
use Prim.Native.Nat.{ℕ, suc, ◌+◌, ◌-◌, ◌≤◌, ◌<◌}
use native.Mathlib.Nat.{add-suc, add-zero, eq-or-lt_of_le}
use native.Mathlib.Omega.{arith}
use mathlib.Core.Bool.{Bool, true, false, ◌&&◌}
use mathlib.Core.List.{List, [], ◌∷◌, ◌++◌, map, reverse, head-eq_of_cons-eq, tail-eq_of_cons-eq, nil≢cons}
use mathlib.Core.Logic.{⊎_elim}
use mathlib.Core.Option.{Option, none, some}
use mathlib.Core.Path.{◌≡◌, refl, sym, ap, ap₂, ◌∙◌, subst}
use lib.Dec as dec
use lib.Dec.{eqb}
use Rattle.std.proofs.Common.{Result, Ok, Err}
use lib.ListN.{length, drop, length-drop}
use Rattle.paper.specs.Units.{Text, Fields, Line, Number}
use Rattle.paper.specs.Text.{lines}
use Rattle.paper.specs.Refusals.{Outcome, refused, accepted, ◌>>=◌, Rule, judged, RowKind, rules_of}
use Rattle.paper.specs.Sheet.{Rest, begins, row, rows_from, section}
use Rattle.paper.specs.Tables.{hold_down}
use Rattle.paper.proofs.Lists.{never}
use Rattle.paper.proofs.Lines.{filled, lines_fewer}
use Rattle.paper.proofs.Outcomes.{Sound, numbered, not_accepted, refused_one}
use Rattle.paper.proofs.Sections.{Inverse, section_written, rows_sound}
use Rattle.places.specs.Places.{Place, ended_length, line_at}
use Rattle.places.proofs.Places.{line_there, no_line, unended_line, ended_most}
use Rattle.answers.specs.Refusals.{refusal}
use Rattle.answers.specs.declared.Refused.{Refused}
use Rattle.sections.specs.Sections.{next_after, section_as, rows_in}
use Rattle.sections.proofs.Loops.{whole}

-- ---- lines counted from another one

-- A refusal so many lines further down
abbrev further : {A : Type 0} → Line → Outcome A → Outcome A
further lines (refused number line) = refused number (lines + line)
further lines (accepted a) = accepted a

-- What was read, with the lines behind it so many further down
abbrev further_rest : {A : Type 0} → Line → Outcome (A × Rest) → Outcome (A × Rest)
further_rest lines (refused number line) = refused number (lines + line)
further_rest lines (accepted read) = accepted (read.0, (lines + read.1.0, read.1.1))

judged_further : {R : Type 0} (lines at : Line) (r : R) (rules : List Rule) → judged (lines + at) r rules ≡ further lines (judged at r rules)
judged_further lines at r [] = refl
judged_further lines at r ((number, true) ∷ rules) = judged_further lines at r rules
judged_further lines at r ((number, false) ∷ rules) = refl

module _ {R : Type 0} (kind : RowKind R) where
  row_further : (above : List R) (lines at : Line) (fs : Fields) → row kind above (lines + at) fs ≡ further lines (row kind above at fs)
  row_further above lines at fs = go (begins kind.letter fs && eqb (length fs) kind.many) (kind.read fs)
    where
      formed : Line → Bool → Option R → Outcome R
      formed at form o = elim form [ false ↦ refused 5 at | true ↦ elim o [ none ↦ refused 6 at | some r ↦ judged at r (rules_of kind above r) ] ]

      go : (form : Bool) (o : Option R) → formed (lines + at) form o ≡ further lines (formed at form o)
      go false o = refl
      go true none = refl
      go true (some r) = judged_further lines at r (rules_of kind above r)

  rows_further : (lines : Line) (above : List R) (at : Line) (fss : List Fields)
      → rows_from kind above (lines + at) fss ≡ further_rest lines (rows_from kind above at fss)
  unfolding rows_from
  rows_further lines above at [] = refl
  rows_further lines above at (fs ∷ more) =
      go (begins kind.letter fs) (row kind above at fs) (row kind above (lines + at) fs) (row_further above lines at fs)
      (λ r. rows_further lines (r ∷ above) (suc at) more)
    where
      run : Line → Bool → Outcome R → Outcome (List R × Rest)
      run at b o =
          elim b [
            | false ↦ accepted (reverse above, (at, fs ∷ more))
            | true ↦ elim o [ refused number line ↦ refused number line | accepted r ↦ rows_from kind (r ∷ above) (suc at) more ]
          ]

      go : (b : Bool) (o q : Outcome R) → q ≡ further lines o
          → ((r : R) → rows_from kind (r ∷ above) (lines + suc at) more ≡ further_rest lines (rows_from kind (r ∷ above) (suc at) more))
          → run (lines + at) b q ≡ further_rest lines (run at b o)
      go false o q e rest = refl
      go true (refused number line) q e rest = ap (run (lines + at) true) e
      go true (accepted r) q e rest =
          ap (run (lines + at) true) e ∙ ap (λ (n : Line). rows_from kind (r ∷ above) n more) (sym (add-suc lines at)) ∙ rest r

  -- A section is the same wherever its lines are counted from
  section_further : (lines : Line) (fss : List Fields) → section kind (lines, fss) ≡ further_rest lines (section kind (0, fss))
  section_further lines fss = ap (λ (n : Line). rows_from kind [] n fss) (sym (add-zero lines)) ∙ rows_further lines [] 0 fss

-- ---- behind the rows

-- Rows that stand on end in the sheet, each on its line: behind them the lines that come next, at their place
after_rows : {R : Type 0} (sheet : Text) (write : R → Fields) → ((r : R) → filled (write r) ≡ true)
    → (from : Place) (rs : List R) (more : List Fields) → from ≤ ended_length sheet → lines (drop from sheet) ≡ map write rs ++ more
    → (lines (drop (next_after sheet from (length rs)) sheet) ≡ more) × (next_after sheet from (length rs) ≤ ended_length sheet)
after_rows sheet write has from [] more h e = (e, h)
after_rows {R} sheet write has from (r ∷ rs) more h e =
    let l = line_there sheet from below in
    after_rows sheet write has (line_at sheet from).next rs more l.most (tail-eq_of_cons-eq (sym l.read ∙ e))
  where
    -- A row stands on a line that has its LF
    below : from < ended_length sheet
    below =
        ⊎_elim
        (λ last. ⊎_elim
        (λ all. absurd (nil≢cons (sym (no_line sheet from last (last ∙ all)) ∙ e)))
        (λ less.
        let blank = head-eq_of_cons-eq (sym (unended_line sheet from last (subst (λ (n : ℕ). n < length sheet) (sym last) less)) ∙ e) in
        never (ap filled blank ∙ has r))
        (eq-or-lt_of_le (ended_most sheet)))
        (λ l. l)
        (eq-or-lt_of_le h)

-- ---- a section between others

-- What is known of a row kind: its rows are written as they are read, on a line of at least one field, and its rules are numbered
pub record Staged {R : Type 0} (kind : RowKind R) : Type 0 where
  pub inverse : Inverse kind
  pub some_field : (r : R) → filled (kind.write r) ≡ true
  pub numbers : (above : List R) (r : R) → numbered (rules_of kind above r) ≡ true

-- How many rows a section has whose lines are counted from a line, or has above its refusal
abbrev pub count_in : {R T : Type 0} → Line → List R → Result (T × Place) Refused → ℕ
count_in at rows (Err f) = f.line - at
count_in at rows (Ok read) = length rows

-- A reading that goes on with a section, its lines counted from a line, and then with what is behind it
module _ {R B T : Type 0} (kind : RowKind R) (staged : Staged kind) (table : List R → T) (sheet : Text) (from : Place) (h : from ≤ ended_length sheet)
    (at : Line) (next : List R × Rest → Outcome B) (reading : Outcome B) (so_far : reading ≡ (section kind (at, lines (drop from sheet)) >>= next)) where
  -- It is refused where the section is, by the number of a rule, on the section's first line or one further down in the sheet
  pub record Exit (f : Refused) : Type 0 where
    pub number : Number
    pub low : (1 ≤ number) × (number ≤ 12)
    pub is : refusal number ≡ f.refusal
    pub below : at ≤ f.line
    pub above : f.line - at ≤ length sheet
    pub stops : reading ≡ refused number f.line

  -- or goes on behind the section's rows, which keep the rules
  pub record Open (rows : List R) (t : T) (behind : Place) : Type 0 where
    pub is : t ≡ table rows
    pub down : dec.T (hold_down kind [] rows)
    pub within : behind ≤ ended_length sheet
    pub goes : reading ≡ next (rows, (at + length rows, lines (drop behind sheet)))

  data Stage (o : Outcome (List R × Rest)) : Result (T × Place) Refused → Type 0 where
    stopped : {f : Refused} → Exit f → Stage o (Err f)
    went : {t : T} {behind : Place} → Open (rows_in o) t behind → Stage o (Ok (t, behind))

  stage : Stage (whole kind sheet from at) (section_as table sheet from (whole kind sheet from at))
  stage = go (whole kind sheet from at) refl
    where
      -- A section that is refused is so on a line of its own, or on the one behind its rows
      below_line : (o : Outcome (List R × Rest)) (number line : ℕ) → further_rest at o ≡ refused number line → at ≤ line
      below_line (refused m l) number line e = omega (arith, (refused_one e).1)
      below_line (accepted read) number line e = not_accepted (sym e)

      go : (o : Outcome (List R × Rest)) → whole kind sheet from at ≡ o → Stage o (section_as table sheet from o)
      go (refused number line) e =
          let fss = lines (drop from sheet) in
          let sound = subst (Sound (at + length fss)) e (rows_sound kind staged.numbers (at + length fss) [] at fss (omega arith)) in
          stopped
          (record {
            number = number;
            low = (sound.0, sound.1);
            is = refl;
            below = below_line (section kind (0, fss)) number line (sym (section_further kind at fss) ∙ e);
            above = omega (arith, sound.2, lines_fewer (drop from sheet), length-drop from sheet);
            stops = so_far ∙ ap (λ (o : Outcome (List R × Rest)). o >>= next) e;
          })
      go (accepted (rs, rest)) e =
          let (down, split, line) = section_written kind staged.inverse (at, lines (drop from sheet)) rs rest e in
          let (behind, within) = after_rows sheet kind.write staged.some_field from rs rest.1 h split in
          let rest_is : rest ≡ (at + length rs, lines (drop (next_after sheet from (length rs)) sheet)) =
          ap₂ (λ (n : Line) (fss : List Fields). (n, fss)) line (sym behind)
          in
          went
          (record {
            is = refl;
            down = down;
            within = within;
            goes = so_far ∙ ap (λ (o : Outcome (List R × Rest)). o >>= next) e ∙ ap (λ (r : Rest). next (rs, r)) rest_is;
          })

  module _ (x : Result (T × Place) Refused) (is : x ≡ section_as table sheet from (whole kind sheet from at)) where
    pub exits : (f : Refused) → x ≡ Err f → Exit f
    exits f e = go _ stage (sym is ∙ e)
      where
        go : (y : Result (T × Place) Refused) → Stage (whole kind sheet from at) y → y ≡ Err f → Exit f
        go (Err g) (stopped s) e = let one : g ≡ f = cc in subst Exit one s
        go (Ok read) (went s) e = cc

    -- Its rows, or those above its refusal, are few
    pub few : (most : ℕ) → ((rs : List R) → dec.T (hold_down kind [] rs) → length rs ≤ most)
        → count_in at (rows_in (whole kind sheet from at)) x ≤ most + length sheet
    few most bound = rw is (go _ stage)
      where
        go : (y : Result (T × Place) Refused) → Stage (whole kind sheet from at) y → count_in at (rows_in (whole kind sheet from at)) y ≤ most + length sheet
        go (Err g) (stopped s) = omega (arith, s.above)
        go (Ok read) (went s) = omega (arith, bound (rows_in (whole kind sheet from at)) s.down)

    pub opens : (t : T) (behind : Place) → x ≡ Ok (t, behind) → Open (rows_in (whole kind sheet from at)) t behind
    opens t behind e = go _ stage (sym is ∙ e)
      where
        go : (y : Result (T × Place) Refused) → Stage (whole kind sheet from at) y → y ≡ Ok (t, behind) → Open (rows_in (whole kind sheet from at)) t behind
        go (Err g) (stopped s) e = cc
        go (Ok (u, after)) (went s) e =
            let one : (u, after) ≡ (t, behind) = cc in
            subst (λ (p : T × Place). Open (rows_in (whole kind sheet from at)) p.0 p.1) one s

-- ---- one section after the other

-- A reading that goes on with a section, from a place and a line
pub record Standing {R B : Type 0} (kind : RowKind R) (next : List R × Rest → Outcome B) (sheet : Text) (from : Place) (at : Line) (reading : Outcome B) : Type 0 where
  pub within : from ≤ ended_length sheet
  pub goes : reading ≡ (section kind (at, lines (drop from sheet)) >>= next)

module _ {R B T : Type 0} {kind : RowKind R} {sheet : Text} {from : Place} {at : Line} {next : List R × Rest → Outcome B} {reading : Outcome B}
    (s : Standing kind next sheet from at reading) (staged : Staged kind) (table : List R → T)
    (x : Result (T × Place) Refused) (is : x ≡ section_as table sheet from (whole kind sheet from at)) where
  pub stopped_there : (f : Refused) → x ≡ Err f → Exit kind staged table sheet from s.within at next reading s.goes f
  stopped_there = exits kind staged table sheet from s.within at next reading s.goes x is

  pub few_there : (most : ℕ) → ((rs : List R) → dec.T (hold_down kind [] rs) → length rs ≤ most)
      → count_in at (rows_in (whole kind sheet from at)) x ≤ most + length sheet
  few_there = few kind staged table sheet from s.within at next reading s.goes x is

  pub opened : (t : T) (behind : Place) → x ≡ Ok (t, behind) → Open kind staged table sheet from s.within at next reading s.goes (rows_in (whole kind sheet from at)) t behind
  opened = opens kind staged table sheet from s.within at next reading s.goes x is
