-- Sections: rows written one under another are read back, and what is read was so written. Said once, over the row kind.
use Prim.Native.Nat.{suc, ◌+◌, ◌≤◌, ◌<◌}
use native.Mathlib.Nat.{suc-add, add-suc, add-zero}
use native.Mathlib.Omega.{arith}
use mathlib.Core.Bool.{Bool, true, false, not, ◌&&◌}
use mathlib.Core.List.{List, [], ◌∷◌, ◌++◌, map, reverse, append_assoc, append-nil, reverse-cons}
use mathlib.Core.Option.{Option, none, some}
use mathlib.Core.Path.{◌≡◌, refl, sym, ap, ap₂, ◌∙◌, subst}
use borrow.Author.Tests.{eqb-true, eq-eqb, not-true}
use lib.Dec.{T, eqb}
use lib.ListN.{length}
use Rattle.paper.specs.Units.{Text, Fields, Line}
use Rattle.paper.specs.Lists.{every, Each}
use Rattle.paper.specs.Refusals.{Outcome, refused, accepted, judged, RowKind, rules_of}
use Rattle.paper.specs.Sheet.{Rest, begins, row, rows_from, section}
use Rattle.paper.specs.Tables.{hold, hold_down}
use Rattle.paper.proofs.Lists.{tests, together, both}
use Rattle.paper.proofs.Lines.{plain}
use Rattle.paper.proofs.Outcomes.{accepted_one, not_accepted, judged_holds, judged_accepted, Sound, numbered, judged_sound}

-- No line of those to come has a letter first
abbrev pub stops : Text → List Fields → Bool
stops letter [] = true
stops letter (fs ∷ more) = not (begins letter fs)

-- Rows of another kind do not
pub stops_before : {R : Type 0} (letter : Text) (write : R → Fields) → ((r : R) → begins letter (write r) ≡ false)
    → (rs : List R) (more : List Fields) → stops letter more ≡ true → stops letter (map write rs ++ more) ≡ true
stops_before letter write other [] more h = h
stops_before letter write other (r ∷ rs) more h = ap not (other r)

module _ {R : Type 0} (kind : RowKind R) where
  -- Reading is the inverse of writing for the rows that the rules admit
  pub record Inverse : Type 0 where
    pub begun : (r : R) → begins kind.letter (kind.write r) ≡ true
    pub counted : (r : R) → length (kind.write r) ≡ kind.many
    pub back : (above : List R) (r : R) → T (hold (rules_of kind above r)) → kind.read (kind.write r) ≡ some r
    pub written : (above : List R) (r : R) (fs : Fields) → T (hold (rules_of kind above r)) → begins kind.letter fs ≡ true → length fs ≡ kind.many
        → kind.read fs ≡ some r → kind.write r ≡ fs
    pub plain_fields : (above : List R) (r : R) → T (hold (rules_of kind above r)) → Each (λ f. every plain f ≡ true) (kind.write r)

  -- ... by whether it has its letter and its number of fields, and by what its fields read as
  abbrev formed : List R → Line → Bool → Option R → Outcome R
  formed above at form o =
      elim form [
        | false ↦ refused 5 at
        | true ↦ elim o [ none ↦ refused 6 at | some r ↦ judged at r (rules_of kind above r) ]
      ]

  -- How a section goes on at a line: by whether that has the letter, and by how it is judged
  abbrev stepped : List R → Line → Fields → List Fields → Bool → Outcome R → Outcome (List R × Rest)
  stepped above at fs more b o =
      elim b [
        | false ↦ accepted (reverse above, (at, fs ∷ more))
        | true ↦ elim o [ refused number line ↦ refused number line | accepted r ↦ rows_from kind (r ∷ above) (suc at) more ]
      ]

  -- A refusal's number is 1 to 12, and its line that of the row
  pub row_sound : ((above : List R) (r : R) → numbered (rules_of kind above r) ≡ true) → (limit : Line) (above : List R) (at : Line) (fs : Fields)
      → at < limit → Sound limit (row kind above at fs)
  row_sound n limit above at fs l = go (begins kind.letter fs && eqb (length fs) kind.many) (kind.read fs)
    where
      go : (form : Bool) (o : Option R) → Sound limit (formed above at form o)
      go false o = (omega arith, omega arith, l)
      go true none = (omega arith, omega arith, l)
      go true (some r) = judged_sound limit at r (rules_of kind above r) (n above r) l

  -- Nor are those of a section: its lines are below a limit
  pub rows_sound : ((above : List R) (r : R) → numbered (rules_of kind above r) ≡ true) → (limit : Line) (above : List R) (at : Line) (fss : List Fields)
      → at + length fss ≤ limit → Sound limit (rows_from kind above at fss)
  unfolding rows_from
  rows_sound n limit above at [] l = tt
  rows_sound n limit above at (fs ∷ more) l =
      go (begins kind.letter fs) (row kind above at fs) (row_sound n limit above at fs (omega arith))
      (λ r. rows_sound n limit (r ∷ above) (suc at) more (omega arith))
    where
      go : (b : Bool) (o : Outcome R) → Sound limit o → ((r : R) → Sound limit (rows_from kind (r ∷ above) (suc at) more))
          → Sound limit (stepped above at fs more b o)
      go false o s rest = tt
      go true (refused number line) s rest = s
      go true (accepted r) s rest = rest r

  module _ (inverse : Inverse) where
    -- A written row is read back
    pub row_back : (above : List R) (at : Line) (r : R) → T (hold (rules_of kind above r)) → row kind above at (kind.write r) ≡ accepted r
    row_back above at r h =
        let form : (begins kind.letter (kind.write r) && eqb (length (kind.write r)) kind.many) ≡ true =
        rw (inverse.begun r) (eq-eqb (length (kind.write r)) kind.many (inverse.counted r))
        in
        ap₂ (formed above at) form (inverse.back above r h) ∙ judged_holds at r (rules_of kind above r) h

    -- What is read was so written
    pub row_written : (above : List R) (at : Line) (fs : Fields) (r : R) → row kind above at fs ≡ accepted r
        → (kind.write r ≡ fs) × T (hold (rules_of kind above r))
    row_written above at fs r e = go (begins kind.letter fs && eqb (length fs) kind.many) refl (kind.read fs) refl e
      where
        go : (form : Bool) → (begins kind.letter fs && eqb (length fs) kind.many) ≡ form → (o : Option R) → kind.read fs ≡ o
            → formed above at form o ≡ accepted r → (kind.write r ≡ fs) × T (hold (rules_of kind above r))
        go false f o k e = not_accepted e
        go true f none k e = not_accepted e
        go true f (some q) k e =
            let form = both (begins kind.letter fs) (eqb (length fs) kind.many) f in
            let judged = judged_accepted at q r (rules_of kind above q) e in
            let h : T (hold (rules_of kind above r)) = subst (λ (x : R). T (hold (rules_of kind above x))) judged.0 judged.1 in
            (inverse.written above r fs h form.0 (eqb-true (length fs) kind.many form.1) (k ∙ ap some judged.0), h)

    -- A row more behind those above
    behind : (above : List R) (r : R) (rs : List R) → reverse (r ∷ above) ++ rs ≡ reverse above ++ (r ∷ rs)
    behind above r rs = ap (λ (l : List R). l ++ rs) (reverse-cons r above) ∙ append_assoc (reverse above) (r ∷ []) rs

    -- Written rows are read back, down to the first line with another letter
    pub rows_back : (above rs : List R) (at : Line) (more : List Fields) → T (hold_down kind above rs) → stops kind.letter more ≡ true
        → rows_from kind above at (map kind.write rs ++ more) ≡ accepted (reverse above ++ rs, (at + length rs, more))
    unfolding rows_from
    rows_back above [] at [] h s = rw (append-nil, add-zero)
    rows_back above [] at (fs ∷ more) h s = rw (not-true (begins kind.letter fs) s, rows_from, append-nil, add-zero)
    rows_back above (r ∷ rs) at more h s =
        let here : T (hold (rules_of kind above r)) = search tests in
        let below : T (hold_down kind (r ∷ above) rs) = search tests in
        rw (inverse.begun r, rows_from, row_back above at r here)
        (rows_back (r ∷ above) rs (suc at) more below s ∙ rw (behind above r rs, suc-add, add-suc))

    -- What was read of lines, with the rows above: rows that are written so, and the lines that remain
    record Read (above : List R) (at : Line) (fss : List Fields) (all : List R) (rest : Rest) : Type 0 where
      rows : List R
      in_all : all ≡ reverse above ++ rows
      in_lines : fss ≡ map kind.write rows ++ rest.1
      on_line : rest.0 ≡ at + length rows
      down : T (hold_down kind above rows)

    -- None, where no line has the letter
    none_read : (above : List R) (at : Line) (fss : List Fields) (all : List R) (rest : Rest)
        → ◌≡◌ {A = Outcome (List R × Rest)} (accepted (reverse above, (at, fss))) (accepted (all, rest)) → Read above at fss all rest
    none_read above at fss all rest e =
        let one = accepted_one e in
        record {
          rows = [];
          in_all = sym (ap (λ x. x.0) one) ∙ sym (append-nil (reverse above));
          in_lines = ap (λ x. x.1.1) one;
          on_line = sym (ap (λ x. x.1.0) one) ∙ sym (add-zero at);
          down = tt;
        }

    -- Rows that are read were so written
    rows_written : (above : List R) (at : Line) (fss : List Fields) (all : List R) (rest : Rest)
        → rows_from kind above at fss ≡ accepted (all, rest) → Read above at fss all rest
    unfolding rows_from
    rows_written above at [] all rest e = none_read above at [] all rest e
    rows_written above at (fs ∷ more) all rest e =
        go (begins kind.letter fs) (row kind above at fs) refl e (λ r. rows_written (r ∷ above) (suc at) more all rest)
      where
        go : (b : Bool) (o : Outcome R) → row kind above at fs ≡ o
            → stepped above at fs more b o ≡ accepted (all, rest)
            → ((r : R) → rows_from kind (r ∷ above) (suc at) more ≡ accepted (all, rest) → Read (r ∷ above) (suc at) more all rest)
            → Read above at (fs ∷ more) all rest
        go false o k e later = none_read above at (fs ∷ more) all rest e
        go true (refused number line) k e later = not_accepted e
        go true (accepted r) k e later =
            let below = later r e in
            let here = row_written above at fs r k in
            record {
              rows = r ∷ below.rows;
              in_all = below.in_all ∙ behind above r below.rows;
              in_lines = ap₂ (λ (l : Fields) (ls : List Fields). l ∷ ls) (sym here.0) below.in_lines;
              on_line = omega (arith, below.on_line);
              down = together (hold (rules_of kind above r)) (hold_down kind (r ∷ above) below.rows) here.1 below.down;
            }

    -- So is a section: its rows, each as it is written, then the lines that remain
    pub section_written : (rest : Rest) (all : List R) (more : Rest) → section kind rest ≡ accepted (all, more)
        → T (hold_down kind [] all) × (rest.1 ≡ map kind.write all ++ more.1) × (more.0 ≡ rest.0 + length all)
    section_written rest all more e =
        let r = rows_written [] rest.0 rest.1 all more e in
        rw r.in_all (r.down, r.in_lines, r.on_line)
