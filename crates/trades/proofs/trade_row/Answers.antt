-- `trades::trade_row` meets its contract: its line is found, and what its fields and its dates give is handed on.
use Prim.Native.Nat.{◌<◌}
use native.Mathlib.Omega.{arith}
use mathlib.Core.Option.{none}
use mathlib.Core.Path.{◌≡◌, sym, ◌∙◌}
use Rattle.std.proofs.lemmas.Result.{err_from_is_err_and}
use Rattle.paper.specs.Units.{Text}
use Rattle.paper.specs.Refusals.{trade_kind}
use Rattle.places.specs.Places.{Place, ended_length, line_at}
use Rattle.places.specs.declared.Line.{Line}
use Rattle.sections.specs.Sections.{fields_at}
use Rattle.sections.proofs.Reading.{Lined, line_asked, counted, lined, not_many}
use Rattle.trades.specs.Read.{held_row}
use Rattle.trades.proofs.Row.{terms_refused, days_refused, days_taken}
use Rattle.trades.proofs.trade_row.Goals as goal

-- The line has its fields
its_line : {s : Text} {at end : Place} {line : Line} → (at < end) × (end ≡ ended_length s) → line ≡ line_at s at → line.count ≡ 9 → Lined s at line 9
its_line r e n = lined _ _ _ r.0 r.1 _ e 9 (omega arith) n

pub line_at-line-requires : goal.line_at-line-requires
line_at-line-requires c = line_asked c.args.s.now c.args.at c.args.end c.requires.0 c.requires.1

pub returns-then-line-ne9 : goal.returns-then-line-ne9
returns-then-line-ne9 c =
    let s = c.args.s.now in
    let at = c.args.at in
    let count = counted s at c.args.end c.requires.0 c.requires.1 c.line_at-line.result c.line_at-line.ensures in
    sym (not_many (held_row s at) (line_at s at).next (trade_kind 0 (λ code. none)) (fields_at s at) (λ n. c.if-line-ne9.true (sym count ∙ n)))

pub trade_terms-requires : goal.trade_terms-requires
trade_terms-requires c = (its_line c.requires c.line_at-line.ensures c.if-line-ne9.false).stands

pub returns-in_err-terms : goal.returns-in_err-terms
returns-in_err-terms c =
    let line = its_line c.requires c.line_at-line.ensures c.if-line-ne9.false in
    let (f, same, is) = err_from_is_err_and c.from_residual.result c.from_residual.ensures.1 in
    rw (same, is) (terms_refused _ _ line c.trade_terms.ensures (sym c.ok_or.ensures.value ∙ c.in_err-terms.was))

pub field-requires : goal.field-requires
field-requires c = (its_line c.requires c.line_at-line.ensures c.if-line-ne9.false).stands 5 (omega arith)

pub field-requires-2 : goal.field-requires-2
field-requires-2 c = (its_line c.requires c.line_at-line.ensures c.if-line-ne9.false).stands 6 (omega arith)

pub returns-in_err-first : goal.returns-in_err-first
returns-in_err-first c =
    let line = its_line c.requires c.line_at-line.ensures c.if-line-ne9.false in
    let (f, same, is) = err_from_is_err_and c.from_residual-in_err-first.result c.from_residual-in_err-first.ensures.1 in
    rw (same, is)
    (days_refused _ _ line c.trade_terms.ensures (sym c.ok_or.ensures.value ∙ c.in_ok-terms.was) c.field.ensures c.field-2.ensures c.trade_days-days.ensures
    (sym c.ok_or-2.ensures.value ∙ c.in_err-first.was))

pub overflow_add-row : goal.overflow_add-row
overflow_add-row c =
    let f = (its_line c.requires c.line_at-line.ensures c.if-line-ne9.false).stands 2 (omega arith) in
    omega (arith, f.ordered, f.inside)

pub returns : goal.returns
returns c =
    let line = its_line c.requires c.line_at-line.ensures c.if-line-ne9.false in
    days_taken _ _ line c.trade_terms.ensures (sym c.ok_or.ensures.value ∙ c.in_ok-terms.was) c.field.ensures c.field-2.ensures c.trade_days-days.ensures
    (sym c.ok_or-2.ensures.value ∙ c.in_ok-first.was)
