-- `priorities::known_classes` meets its contract. The loop's invariant: a class is known where it has one of the rows so far.
use Prim.Native.Nat.{ℕ, zero, suc, ◌+◌, ◌<◌}
use native.Mathlib.Numerals.{add-one}
use native.Mathlib.Omega.{arith}
use mathlib.Core.Bool.{Bool, true, false}
use mathlib.Core.List.{List, [], ◌∷◌, ◌++◌, map, map-append}
use mathlib.Core.Path.{◌≡◌, refl, sym, ap, ap₂, ◌∙◌}
use borrow.Author.Tests.{eq-eqb, ne_eqb}
use lib.Dec.{eqb}
use lib.ListN.{length, get_or, take, set}
use lib.Seq.{take-suc}
use Rattle.std.proofs.lemmas.List.{set_past}
use Rattle.paper.specs.Lists.{first_that}
use Rattle.paper.specs.Rows as paper
use Rattle.paper.specs.Refusals.{has_class}
use Rattle.tables.specs.Blanks.{no_class}
use Rattle.tables.specs.Back.{paper_class}
use Rattle.tables.specs.declared.ClassRow.{ClassRow}
use Rattle.priorities.specs.Known.{known_from, known_of}
use Rattle.priorities.proofs.known_classes.Goals as goal
use Rattle.priorities.proofs.known_classes.Goals.{then-row-le40, else-row-le40}

-- A row more: its own class has a row, and any other has one where it had one
module _ (c : paper.ClassRow) where
  has_own : (cs : List paper.ClassRow) (n : ℕ) → c.class ≡ n → has_class (cs ++ (c ∷ [])) n ≡ true
  has_own [] n e = rw (eq-eqb c.class n e, first_that)
  has_own (d ∷ cs) n e = go (eqb d.class n) refl (has_own cs n e)
    where
      go : (t : Bool) → eqb d.class n ≡ t → has_class (cs ++ (c ∷ [])) n ≡ true → has_class (d ∷ (cs ++ (c ∷ []))) n ≡ true
      go true k rest = rw (k, first_that)
      go false k rest = rw (k, first_that) rest

  has_other : (cs : List paper.ClassRow) (n : ℕ) → (c.class ≡ n → ⊥) → has_class (cs ++ (c ∷ [])) n ≡ has_class cs n
  has_other [] n e = rw (ne_eqb c.class n e, first_that)
  has_other (d ∷ cs) n e = go (eqb d.class n) refl (has_other cs n e)
    where
      go : (t : Bool) → eqb d.class n ≡ t → has_class (cs ++ (c ∷ [])) n ≡ has_class cs n → has_class (d ∷ (cs ++ (c ∷ []))) n ≡ has_class (d ∷ cs) n
      go true k rest = rw (k, first_that)
      go false k rest = rw (k, first_that) rest

  -- Above its class nothing changes
  known_above : (many first : ℕ) (cs : List paper.ClassRow) → c.class < first → known_from many first cs ≡ known_from many first (cs ++ (c ∷ []))
  known_above zero first cs h = refl
  known_above (suc many) first cs h =
      ap₂ (λ (b : Bool) (l : List Bool). b ∷ l) (sym (has_other cs first (λ e. omega arith))) (known_above many (suc first) cs (omega arith))

  -- So only its class becomes known
  known_more : (many first k : ℕ) (cs : List paper.ClassRow) → c.class ≡ first + k
      → set (known_from many first cs) k true ≡ known_from many first (cs ++ (c ∷ []))
  known_more zero first k cs e = refl
  known_more (suc many) first zero cs e =
      ap₂ (λ (b : Bool) (l : List Bool). b ∷ l) (sym (has_own cs first (omega arith))) (known_above many (suc first) cs (omega arith))
  known_more (suc many) first (suc k) cs e =
      ap₂ (λ (b : Bool) (l : List Bool). b ∷ l) (sym (has_other cs first (λ d. omega arith))) (known_more many (suc first) k cs (omega arith))

-- A row of the table more
known_row : (rows : List ClassRow) (i : ℕ) → i < length rows → (known : List Bool) → known ≡ known_of (map paper_class (take i rows))
    → set known (get_or rows i no_class).class true ≡ known_of (map paper_class (take (i + 1) rows))
known_row rows i h known e =
    let c = get_or rows i no_class in
    let front : map paper_class (take i rows) ++ (paper_class c ∷ []) ≡ map paper_class (take (i + 1) rows) =
    sym (map-append paper_class (take i rows) (c ∷ [])) ∙ ap (map paper_class) (sym (take-suc rows i no_class h) ∙ ap (λ (n : ℕ). take n rows) (sym (add-one i))) in
    ap (λ (l : List Bool). set l c.class true) e
    ∙ known_more (paper_class c) 41 0 c.class (map paper_class (take i rows)) (omega arith)
    ∙ ap known_of front

-- In a turn the class of the row at hand is made known; one above 40 has no place among them
pub loop-row-preserved : goal.loop-row-preserved
loop-row-preserved c =
    let l = c.loop-row in
    let i = l.row-index in
    let rows = c.args.classes.now.items in
    let same = c.as_slice-row-items.ensures.value in
    let size = ap length same in
    let own = ap (λ (rows : List ClassRow). set l.known (get_or rows i no_class).class true) same in
    let more = own ∙ known_row rows i (omega (arith, c.loop-row-test.true, size)) l.known l.invariant in
    elim c.if-row-le40.branch [
      | then-row-le40 w ↦ w.known-is ∙ more
      | else-row-le40 w ↦ w.known-is ∙ sym (set_past l.known _ true (omega (arith, ap length l.invariant, w.if-row-le40.false))) ∙ more
    ]
