-- `reasons::write` meets its contract: the P lines from the start, and behind them the R lines and the B line.
use Rattle.std.proofs.Common.{ℕ, ◌+◌, ◌≤◌, arith, List, ◌≡◌, ap, ap₂, ◌∙◌, length}
use mathlib.Core.Path.{subst, subst⁻¹}
use Rattle.paper.specs.Units.{Text, Class}
use Rattle.tables.specs.declared.PriorityRow.{PriorityRow}
use Rattle.tables.specs.declared.Tables.{Tables}
use Rattle.offsetting.specs.Books.{book_of}
use Rattle.margin.specs.Figures.{opening_of}
use Rattle.margin.specs.declared.Opening.{Opening}
use Rattle.lines.specs.Written.{Wrote}
use Rattle.lines.proofs.Written.{Parts, parts, room, joined}
use Rattle.reasons.specs.Texts.{net_texts, remaining_text, reason_text}
use Rattle.reasons.proofs.write.Goals as goal

module _ (t : Tables) (rank : ℕ) (class : Class) where
  -- The lines behind the P lines, by the C rows, the O rows and what the currency begins with
  abbrev others : ℕ → List PriorityRow → Opening → Text
  others classes os x = remaining_text (3 + classes) os class (book_of x.book)

  -- ... which are those of the tables
  abbrev told : Text
  told = others (length t.classes.items) t.priorities.items (opening_of t rank)

  others_are : {classes : ℕ} {os : List PriorityRow} {x : Opening} → classes ≡ length t.classes.items → os ≡ t.priorities.items → x ≡ opening_of t rank
      → others classes os x ≡ told
  others_are {x = x} counted rows opened =
      ap₂ (λ (classes : ℕ) (os : List PriorityRow). others classes os x) counted rows
      ∙ ap (others (length t.classes.items) t.priorities.items) opened

  -- The P lines, and behind them the others
  both : Parts (reason_text t rank class) (net_texts t.securities (opening_of t rank).worths rank class) told
  both = parts _ _

pub remaining_lines-requires-clause-room : goal.remaining_lines-requires-clause-room
remaining_lines-requires-clause-room c =
    let a = c.args in
    let t = a.tables.now in
    let fits : 0 + length (reason_text t a.rank a.class) ≤ length a.report.now = omega (arith, c.requires.room) in
    let nets = rw c.opening_of.ensures.value at c.net_lines-at.ensures in
    subst⁻¹ (λ (l : Text). c.net_lines-at.result + length l ≤ length c.net_lines-at.new.report)
    (others_are t a.rank a.class c.len.ensures.value c.as_slice.ensures.value c.opening_of.ensures.value)
    (room (both t a.rank a.class) 0 a.report.now fits nets)

pub returns : goal.returns
returns c =
    let a = c.args in
    let t = a.tables.now in
    let fits : 0 + length (reason_text t a.rank a.class) ≤ length a.report.now = omega (arith, c.requires.room) in
    let nets = rw c.opening_of.ensures.value at c.net_lines-at.ensures in
    joined (both t a.rank a.class) 0 a.report.now fits nets
    (subst (λ (l : Text). Wrote l c.net_lines-at.result c.net_lines-at.new.report c.remaining_lines.result c.remaining_lines.new.report)
    (others_are t a.rank a.class c.len.ensures.value c.as_slice.ensures.value c.opening_of.ensures.value)
    c.remaining_lines.ensures)
