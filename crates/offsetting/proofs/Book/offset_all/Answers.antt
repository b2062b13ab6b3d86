-- `Book::offset_all` meets its contract: a row is judged, and its turn leaves what one row more leaves.
use Rattle.std.proofs.Common.{ap, refl, ◌∙◌, arith, add-one}
use Rattle.paper.specs.Offsetting.{offset_row, offset_all}
use Rattle.paper.proofs.Lists.{each_at}
use Rattle.paper.proofs.Totals.{remaining_most}
use Rattle.tables.specs.Blanks.{no_priority}
use Rattle.offsetting.specs.Books.{row_of}
use Rattle.offsetting.proofs.Rows.{row_more}
use Rattle.offsetting.proofs.Book.offset_all.Goals as goal

pub loop-row-init : goal.loop-row-init
unfolding offset_all
loop-row-init c = refl

pub offset_row-requires : goal.offset_row-requires
offset_row-requires c =
    let l = c.loop-row in
    (each_at l.row-index no_priority c.requires.0 (omega arith), rw l.invariant (remaining_most _ _ c.requires.1))

pub loop-row-preserved : goal.loop-row-preserved
loop-row-preserved c =
    let l = c.loop-row in
    rw add-one (c.offset_row.ensures ∙ ap (offset_row (row_of _)) l.invariant ∙ row_more c.args.rows.now l.row-index no_priority _ (omega arith))
