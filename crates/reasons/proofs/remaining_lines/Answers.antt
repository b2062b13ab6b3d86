-- `reasons::remaining_lines` meets its contract: in a turn the row at hand is taken off what those before it left.
use Rattle.std.proofs.Common.{ℕ, ◌+◌, ◌≤◌, ◌<◌, arith, add-one, suc, List, [], ◌≡◌, refl, ap₂, ◌∙◌, length, get_or}
use mathlib.Core.Path.{subst, subst⁻¹}
use Rattle.paper.specs.Units.{Line, Class}
use Rattle.paper.specs.Offsetting.{Book, offset_row, offset_all}
use Rattle.paper.proofs.Lists.{each_at}
use Rattle.paper.proofs.Totals.{remaining_most}
use Rattle.tables.specs.Blanks.{no_priority}
use Rattle.tables.specs.declared.PriorityRow.{PriorityRow}
use Rattle.offsetting.specs.Books.{book_of, row_of}
use Rattle.offsetting.proofs.Rows.{row_more}
use Rattle.lines.specs.Written.{Wrote}
use Rattle.lines.proofs.Written.{Parts, parts, front, room, joined, none_written}
use Rattle.report.proofs.Loops.{texts, turn_room, turn}
use Rattle.reasons.specs.Texts.{row_text, left_by, row_text_at, setter_text, remaining_text}
use Rattle.reasons.proofs.remaining_lines.Goals as goal

-- No row leaves the positions as they are
none_taken : (b : Book) → b ≡ offset_all [] b
unfolding offset_all
none_taken b = refl

-- The rows, and the positions that they begin with
module _ (first : Line) (os : List PriorityRow) (class : Class) (b : Book) where
  -- The R lines, and behind them the B line
  both : Parts (remaining_text first os class b) (texts (row_text_at first os class b) (length os)) (setter_text class (left_by os b (length os)))
  both = parts _ _

  -- In a turn
  module _ (i : ℕ) (less : i < length os) {now : Book} (is : now ≡ left_by os b i) where
    -- What the row at hand leaves of the positions
    row_leaves : offset_row (row_of (get_or os i no_priority)) now ≡ left_by os b (suc i)
    row_leaves = rw is (row_more os i no_priority b less)

    -- So its line is the one of the text
    row_text_is : row_text (first + i) class now (offset_row (row_of (get_or os i no_priority)) now) ≡ row_text_at first os class b i
    row_text_is = ap₂ (row_text (first + i) class) is row_leaves

pub loop-i-init : goal.loop-i-init
loop-i-init c = (none_taken (book_of c.args.book), none_written c.args.from c.args.report.now)

pub take_row-at-requires-clause-facts : goal.take_row-at-requires-clause-facts
take_row-at-requires-clause-facts c =
    let l = c.loop-i in
    (c.requires.rows.1, each_at l.i no_priority c.requires.rows.3 c.loop-i-test.true, rw l.invariant.0 (remaining_most _ _ c.requires.book))

pub take_row-at-requires-clause-room : goal.take_row-at-requires-clause-room
take_row-at-requires-clause-room c =
    let a = c.args in
    let os = a.priorities.now in
    let b = book_of a.book in
    let l = c.loop-i in
    turn_room (row_text_at a.first os a.class b) (length os) a.from a.report.now (front (both a.first os a.class b) a.from a.report.now c.requires.room) l.i
    c.loop-i-test.true
    l.invariant.1
    (row_text_is a.first os a.class b l.i c.loop-i-test.true l.invariant.0)

pub loop-i-preserved : goal.loop-i-preserved
loop-i-preserved c =
    let a = c.args in
    let os = a.priorities.now in
    let b = book_of a.book in
    let l = c.loop-i in (
      rw add-one (c.take_row-at.ensures.left ∙ row_leaves a.first os a.class b l.i c.loop-i-test.true l.invariant.0),
      turn (row_text_at a.first os a.class b) (length os) a.from a.report.now (front (both a.first os a.class b) a.from a.report.now c.requires.room) l.i
          c.loop-i-test.true
          l.invariant.1
          (row_text_is a.first os a.class b l.i c.loop-i-test.true l.invariant.0)
          c.take_row-at.ensures.written,
    )

pub setter_line-requires : goal.setter_line-requires
setter_line-requires c =
    let a = c.args in
    let os = a.priorities.now in
    let l = c.loop-i in
    let b = book_of a.book in
    let all : l.i ≡ length os = omega arith in
    subst⁻¹ (λ (b : Book). l.at + length (setter_text a.class b) ≤ length l.report) (rw all at l.invariant.0)
    (room (both a.first os a.class b) a.from a.report.now c.requires.room (rw all at l.invariant.1))

pub returns : goal.returns
returns c =
    let a = c.args in
    let os = a.priorities.now in
    let l = c.loop-i in
    let b = book_of a.book in
    let all : l.i ≡ length os = omega arith in
    joined (both a.first os a.class b) a.from a.report.now c.requires.room (rw all at l.invariant.1)
    (subst (λ (b : Book). Wrote (setter_text a.class b) l.at l.report c.setter_line.result c.setter_line.new.report) (rw all at l.invariant.0)
    c.setter_line.ensures)
