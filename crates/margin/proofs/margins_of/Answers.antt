-- `margin::margins_of` meets its contract: the margin of a turn and the sum with it are within the table of bounds.
use Prim.Native.Nat.{ℕ, ◌+◌, ◌-◌, ◌≤◌, ◌<◌}
use native.Mathlib.Omega.{arith}
use mathlib.Core.List.{List, map}
use mathlib.Core.Path.{◌≡◌, ap, ◌∙◌}
use lib.ListN.{length, get_or, drop, length-drop}
use lib.Seq.{drop-length}
use Rattle.paper.specs.Units.{Whole}
use Rattle.paper.specs.Lists.{sum}
use Rattle.paper.specs.Offsetting.{Book}
use Rattle.paper.proofs.Lists.{each_at}
use Rattle.tables.specs.declared.ClassRow.{ClassRow}
use Rattle.tables.specs.Blanks.{no_class}
use Rattle.offsetting.specs.Books.{book_of}
use Rattle.margin.specs.Figures.{margin_in}
use Rattle.margin.proofs.Backwards.{each_drop, drop_before, made_none, made_more, made_all}
use Rattle.margin.proofs.Positions.{initial_most}
use Rattle.margin.proofs.margins_of.Goals as goal

-- The sum of the margins from a row on: whole units
abbrev initial_from : Book → List ClassRow → ℕ → Whole
initial_from b cs i = sum (map (margin_in b) (drop i cs))

-- The sum with one margin more
initial_more : (b : Book) (cs : List ClassRow) (i : ℕ) → 0 < i → i ≤ length cs → {margin initial : Whole} → margin ≡ margin_in b (get_or cs (i - 1) no_class)
    → initial ≡ initial_from b cs i → initial + margin ≡ initial_from b cs (i - 1)
initial_more b cs i low high is e = rw (drop_before cs i no_class low high) (omega arith)

pub loop-i-init : goal.loop-i-init
loop-i-init c =
    let f = margin_in (book_of c.args.book.now) in
    record { each = made_none f c.args.classes.now no_class 40 0 c.requires.0; initial = rw (drop-length c.args.classes.now) }

pub margin_of-margin-requires : goal.margin_of-margin-requires
margin_of-margin-requires c = (each_at (c.loop-i.i - 1) no_class c.requires.1 (omega arith), c.requires.2)

pub overflow_add-margins : goal.overflow_add-margins
overflow_add-margins c =
    let b = book_of c.args.book.now in
    let cs = c.args.classes.now in
    let l = c.loop-i in
    let more = initial_more b cs l.i c.loop-i-test.true l.auto.i c.margin_of-margin.ensures l.invariant.initial in
    let few : length (drop (l.i - 1) cs) ≤ 40 = omega (arith, length-drop (l.i - 1) cs) in
    record { fits = omega (arith, more, initial_most b few (each_drop (l.i - 1) c.requires.1) c.requires.2) }

pub loop-i-preserved : goal.loop-i-preserved
loop-i-preserved c =
    let b = book_of c.args.book.now in
    let cs = c.args.classes.now in
    let l = c.loop-i in
    let low = c.loop-i-test.true in
    record {
      each = made_more (margin_in b) cs no_class 40 0 c.requires.0 l.i l.margins.each _ l.invariant.each low l.auto.i c.margin_of-margin.ensures;
      initial = initial_more b cs l.i low l.auto.i c.margin_of-margin.ensures l.invariant.initial;
    }

pub returns : goal.returns
returns c =
    let b = book_of c.args.book.now in
    let cs = c.args.classes.now in
    let l = c.loop-i in
    let none : l.i ≡ 0 = omega arith in
    let each = l.invariant.each ∙ made_all (margin_in b) cs no_class 40 0 c.requires.0 l.i none in
    let initial = l.invariant.initial ∙ ap (initial_from b cs) none in
    λ i. record { each = each i; initial = initial i }
