-- `sections::goes_on` meets its contract: the byte where the line starts and the one behind it decide whether it has the letter.
use Prim.Native.Nat.{◌+◌, ◌<◌}
use native.Mathlib.Omega.{arith}
use mathlib.Core.Bool.{◌&&◌}
use mathlib.Core.Path.{◌≡◌, sym, ◌∙◌}
use borrow.Author.Tests.{eq-eqb, ne_eqb, le-ltb}
use lib.Dec.{eqb}
use lib.ListN.{get_or}
use Rattle.paper.specs.Units.{Byte, Text}
use Rattle.places.specs.Places.{Place, ended_length}
use Rattle.places.proofs.Places.{ended_most}
use Rattle.sections.specs.Sections.{goes_on}
use Rattle.sections.proofs.Begins.{is_mark, goes_by_bytes, behind}
use Rattle.sections.proofs.goes_on.Goals as goal

-- Before the end, behind the letter, the next byte decides
module _ (s : Text) (at end : Place) (letter : Byte) (known : (end ≡ ended_length s) × (letter ≡ 10 → ⊥) × (letter ≡ 59 → ⊥)) (before : at < end) where
  decided : goes_on s at end letter ≡ (eqb (get_or s at 0) letter && is_mark (get_or s (at + 1) 0))
  decided = goes_by_bytes letter known.1 known.2 s at end before known.0

  second : get_or s at 0 ≡ letter → goes_on s at end letter ≡ is_mark (get_or s (at + 1) 0)
  second e = decided ∙ rw (eq-eqb (get_or s at 0) letter e)

pub returns-then-end-at : goal.returns-then-end-at
returns-then-end-at c = rw (le-ltb c.args.at c.args.end c.if-end-at.true)

pub returns-then-s-at : goal.returns-then-s-at
returns-then-s-at c =
    let a = c.args in
    sym (decided a.s.now a.at a.end a.letter c.requires c.if-end-at.false ∙ rw (ne_eqb (get_or a.s.now a.at 0) a.letter c.if-s-at.true))

pub bounds-s-at-2 : goal.bounds-s-at-2
bounds-s-at-2 c =
    let a = c.args in
    behind a.letter c.requires.1 c.requires.2 a.s.now a.at a.end c.if-end-at.false c.requires.0 c.if-s-at.false

pub returns-then-b-eq59 : goal.returns-then-b-eq59
returns-then-b-eq59 c =
    let a = c.args in
    sym (second a.s.now a.at a.end a.letter c.requires c.if-end-at.false c.if-s-at.false ∙ rw (eq-eqb (get_or a.s.now (a.at + 1) 0) 59 c.if-b-eq59.true))

pub returns : goal.returns
returns c =
    let a = c.args in
    sym (second a.s.now a.at a.end a.letter c.requires c.if-end-at.false c.if-s-at.false ∙ rw (ne_eqb (get_or a.s.now (a.at + 1) 0) 59 c.if-b-eq59.false))

pub bounds-s-at : goal.bounds-s-at
bounds-s-at c = omega (arith, ended_most c.args.s.now)
