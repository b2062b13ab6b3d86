-- `report::position_lines` meets its contract: in a turn the class at hand is the row at its place.
use Rattle.std.proofs.Common.{ℕ, arith, List, ◌≡◌, ap, length, get_or}
use Rattle.arrayvec.specs.ArrayVec.{ArrayVec}
use Rattle.paper.specs.Units.{Text}
use Rattle.paper.specs.Offsetting.{position}
use Rattle.paper.specs.Report.{Listing}
use Rattle.paper.proofs.Lists.{each_at}
use Rattle.tables.specs.Blanks.{no_class}
use Rattle.tables.specs.declared.ClassRow.{ClassRow}
use Rattle.margin.specs.declared.Currency.{Currency}
use Rattle.report.specs.Texts.{listed_line, position_text}
use Rattle.report.proofs.Loops.{turn_room, turn}
use Rattle.report.proofs.position_lines.Goals as goal

module _ (full : Listing) (money : ℕ) (cs : ArrayVec ClassRow) (c : Currency) (i : ℕ) where
  -- The K line of a row
  abbrev line : ClassRow → Text
  line row =
      listed_line full money row.class (position c.book.long row.class) (position c.book.short row.class) (get_or c.margins i 0)

  -- The row at hand has the line of its place
  line_is : {rows : List ClassRow} → rows ≡ cs.items → line (get_or rows i no_class) ≡ position_text full money cs c i
  line_is same = ap (λ (rows : List ClassRow). line (get_or rows i no_class)) same

pub offset_bounds-figures-class : goal.offset_bounds-figures-class
offset_bounds-figures-class c =
    let same = c.as_slice-row-items.ensures.value in
    rw same (omega (arith, each_at c.loop-i.i no_class c.requires.classed.1 (rw same at c.loop-i-test.true)))

pub bounds-figures-class : goal.bounds-figures-class
bounds-figures-class c =
    let same = c.as_slice-row-items.ensures.value in
    rw same (omega (arith, each_at c.loop-i.i no_class c.requires.classed.1 (rw same at c.loop-i-test.true)))

pub offset_bounds-figures-class-in-loop-i : goal.offset_bounds-figures-class-in-loop-i
offset_bounds-figures-class-in-loop-i c =
    let same = c.as_slice-row-items.ensures.value in
    rw same (omega (arith, each_at c.loop-i.i no_class c.requires.classed.1 (rw same at c.loop-i-test.true)))

pub bounds-figures-class-in-loop-i : goal.bounds-figures-class-in-loop-i
bounds-figures-class-in-loop-i c =
    let same = c.as_slice-row-items.ensures.value in
    rw same (omega (arith, each_at c.loop-i.i no_class c.requires.classed.1 (rw same at c.loop-i-test.true)))

pub put_position-next-requires-clause-room : goal.put_position-next-requires-clause-room
put_position-next-requires-clause-room c =
    let a = c.args in
    let same = c.as_slice-row-items.ensures.value in
    turn_room (position_text a.full a.money a.classes.now a.figures.now) (length a.classes.now.items) a.from a.report.now c.requires.room c.loop-i.i
    (rw same at c.loop-i-test.true)
    c.loop-i.invariant
    (line_is a.full a.money a.classes.now a.figures.now c.loop-i.i same)

pub loop-i-preserved : goal.loop-i-preserved
loop-i-preserved c =
    let a = c.args in
    let same = c.as_slice-row-items.ensures.value in
    turn (position_text a.full a.money a.classes.now a.figures.now) (length a.classes.now.items) a.from a.report.now c.requires.room c.loop-i.i
    (rw same at c.loop-i-test.true)
    c.loop-i.invariant
    (line_is a.full a.money a.classes.now a.figures.now c.loop-i.i same)
    c.put_position-next.ensures
