-- `places::line_at` meets its contract. The invariant of both loops: the ends that were found, and those of the rest of the line
-- behind them, are the line's; `count` says how many were found, and `ends` has the first ten. The measure is the bytes left, up to
-- `end` and of the eight.
use Prim.Native.Nat.{ℕ, zero, suc, ◌+◌, ◌-◌, ◌≤◌, ◌<◌}
use native.Mathlib.Nat.{le_of_suc-le-suc, not-suc-le-zero}
use native.Mathlib.Numerals.{add-one}
use native.Mathlib.Omega.{arith}
use mathlib.Core.List.{List, [], ◌∷◌, ◌++◌, append_assoc}
use mathlib.Core.Path.{◌≡◌, refl, sym, ap, ◌∙◌}
use borrow.Author.Tests.{eq-eqb, ne_eqb}
use lib.ListN.{length, get_or, take, drop, set, replicate, length-append, length-take}
use lib.Seq.{drop-cons, set_out}
use Rattle.paper.specs.Units.{Text}
use Rattle.paper.specs.Text.{LF, semicolon}
use Rattle.places.specs.Places.{Place, ends_from, last_place, line_at}
use Rattle.places.proofs.line_at.Invariants.{ten, Seen}
use Rattle.places.proofs.line_at.Goals as goal
use Rattle.places.proofs.line_at.Goals.{else-b-eq59, else-count-lt10, else-count-lt10-2, then-b-eq59, then-count-lt10, then-count-lt10-2}

-- Zeros cut short
take-zeros : (n m : ℕ) → n ≤ m → take {A = Place} n (replicate m 0) ≡ replicate n 0
take-zeros zero m h = refl
take-zeros (suc n) zero h = absurd (not-suc-le-zero h)
take-zeros (suc n) (suc m) h = ap (λ (l : List Place). 0 ∷ l) (take-zeros n m (le_of_suc-le-suc h))

-- A place more is stored behind the others, or nowhere where there are enough
more : (n m : ℕ) (ps : List Place) (p : Place) → n ≤ m
    → take n ((ps ++ (p ∷ [])) ++ replicate m 0) ≡ set (take n (ps ++ replicate m 0)) (length ps) p
more zero m ps p h = refl
more (suc n) zero ps p h = absurd (not-suc-le-zero h)
more (suc n) (suc m) [] p h =
    ap (λ (l : List Place). p ∷ l)
    (take-zeros n (suc m) (omega arith) ∙ sym (take-zeros n m (le_of_suc-le-suc h)))
more (suc n) (suc m) (q ∷ ps) p h = ap (λ (l : List Place). q ∷ l) (more n (suc m) ps p (omega arith))

length-ten : (ps : List Place) → length (ten ps) ≡ 10
length-ten ps = simp (length-take, length-append) (omega arith)

-- The last place of a list by its end
last-place : (ps : List Place) (p : Place) → last_place (ps ++ (p ∷ [])) ≡ p
last-place [] p = refl
last-place (q ∷ []) p = refl
last-place (q ∷ r ∷ ps) p = last-place (r ∷ ps) p

module _ (s : Text) (at end : ℕ) (ends : List Place) (count : ℕ) (i : Place) (most : end ≤ length s) (seen : Seen s at end ends count i) where
  -- Where an end is not stored, a store would change nothing
  no_room : 10 ≤ count → ends ≡ set ends count i
  no_room h = sym (set_out ends count i (rw seen.first (omega (arith, length-ten seen.found))))

  stored : set ends count i ≡ ten (seen.found ++ (i ∷ []))
  stored = rw (seen.first, seen.number, more 10 10 seen.found i (omega arith))

  -- The line up to here, and what the rest makes of it
  on : (rest : List Place) → ends_from i (drop i s) ≡ rest → ends_from at (drop at s) ≡ seen.found ++ rest
  on rest e = seen.all ∙ ap (λ (l : List Place). seen.found ++ l) e

  -- An LF ends the line
  finished : get_or s i 0 ≡ LF → (ends' : List Place) → ends' ≡ set ends count i
      → record { count = count + 1; ends = ends'; next = i + 1 } ≡ line_at s at
  finished e ends' k =
      let ps = seen.found ++ (i ∷ []) in
      let end-here : ends_from i (drop i s) ≡ i ∷ [] =
      rw (drop-cons s i 0 (omega (arith, seen.inside)), eq-eqb (get_or s i 0) LF e, ends_from) in
      let all : ends_from at (drop at s) ≡ ps = on (i ∷ []) end-here in
      let size : count + 1 ≡ length ps = omega (arith, length-append seen.found (i ∷ []), seen.number) in
      let next : i + 1 ≡ suc (last_place ps) = omega (arith, last-place seen.found i) in
      rw (all, size, k ∙ stored, next)

  -- Any other byte does not: so another comes before `end`
  module _ (lf : get_or s (end - 1) 0 ≡ LF) (other : get_or s i 0 ≡ LF → ⊥) where
    goes_on : i + 1 < end
    goes_on =
        let not_last : i ≡ end - 1 → ⊥ = λ e. other (ap (λ (k : ℕ). get_or s k 0) e ∙ lf) in
        omega (arith, seen.inside)

    -- A `;` ends a field
    marked : get_or s i 0 ≡ semicolon → (ends' : List Place) → ends' ≡ set ends count i → Seen s at end ends' (count + 1) (i + 1)
    marked e ends' k =
        let end-here : ends_from i (drop i s) ≡ i ∷ ends_from (i + 1) (drop (i + 1) s) =
        rw (add-one, drop-cons s i 0 (omega (arith, seen.inside)), ne_eqb (get_or s i 0) LF other, ends_from, eq-eqb (get_or s i 0) semicolon e) in
        record {
          found = seen.found ++ (i ∷ []);
          behind = omega (arith, seen.behind);
          inside = goes_on;
          number = omega (arith, length-append seen.found (i ∷ []), seen.number);
          few = omega (arith, seen.few);
          first = k ∙ stored;
          all = on (i ∷ ends_from (i + 1) (drop (i + 1) s)) end-here ∙ sym (append_assoc seen.found (i ∷ []) (ends_from (i + 1) (drop (i + 1) s)));
        }

    -- A byte of a field
    passed : (get_or s i 0 ≡ semicolon → ⊥) → Seen s at end ends count (i + 1)
    passed n =
        let same : ends_from i (drop i s) ≡ ends_from (i + 1) (drop (i + 1) s) =
        rw (add-one, drop-cons s i 0 (omega (arith, seen.inside)), ne_eqb (get_or s i 0) LF other, ends_from, ne_eqb (get_or s i 0) semicolon n) in
        record {
          found = seen.found;
          behind = omega (arith, seen.behind);
          inside = goes_on;
          number = seen.number;
          few = omega (arith, seen.few);
          first = seen.first;
          all = on (ends_from (i + 1) (drop (i + 1) s)) same;
        }

pub returns-then-b-eq10 : goal.returns-then-b-eq10
returns-then-b-eq10 c =
    let a = c.args in
    let l = c.loop-k-2 in
    let kept = no_room a.s.now a.at a.end l.ends l.count l.i (omega arith) l.invariant.0 in
    finished a.s.now a.at a.end l.ends l.count l.i (omega arith) l.invariant.0 c.if-b-eq10.true c.if-count-lt10.ends
    (elim c.if-count-lt10.branch [ then-count-lt10 w ↦ w.ends-is | else-count-lt10 w ↦ w.ends-is ∙ kept w.if-count-lt10.false ])

pub loop-k-2-preserved : goal.loop-k-2-preserved
loop-k-2-preserved c =
    let a = c.args in
    let l = c.loop-k-2 in
    let kept = no_room a.s.now a.at a.end l.ends l.count l.i (omega arith) l.invariant.0 in
    let marked' = marked a.s.now a.at a.end l.ends l.count l.i (omega arith) l.invariant.0 c.requires.2 c.if-b-eq10.false in
    let passed' = passed a.s.now a.at a.end l.ends l.count l.i (omega arith) l.invariant.0 c.requires.2 c.if-b-eq10.false in (
      elim c.if-b-eq59.branch [ then-b-eq59 w ↦ rw w.count-is (marked' w.if-b-eq59.true c.if-b-eq59.ends (w.ends-is ∙ elim w.if-count-lt10-2.branch [ then-count-lt10-2 v ↦ v.ends-is | else-count-lt10-2 v ↦ v.ends-is ∙ kept v.if-count-lt10-2.false ])) | else-b-eq59 w ↦ rw (w.ends-is, w.count-is) (passed' w.if-b-eq59.false) ],
      omega arith,
      omega arith,
    )
