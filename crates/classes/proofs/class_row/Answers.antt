-- `classes::class_row` meets its contract: its line is found, and what its fields give is handed on.
use native.Mathlib.Omega.{arith}
use mathlib.Core.Path.{refl, sym, ap, ◌∙◌}
use Rattle.std.proofs.Common.{Ok}
use Rattle.std.proofs.lemmas.Result.{err_from_is_err_and}
use Rattle.paper.specs.Refusals.{class_kind}
use Rattle.places.specs.declared.Line.{Line}
use Rattle.places.specs.Places.{line_at}
use Rattle.answers.specs.Options.{answer}
use Rattle.tables.specs.Held.{held_class}
use Rattle.sections.specs.Sections.{fields_at}
use Rattle.sections.proofs.Reading.{line_asked, counted, lined, field_asked, not_many, fields_refused, fields_taken}
use Rattle.classes.proofs.Row.{six, fields_read}
use Rattle.classes.proofs.class_row.Goals as goal

pub line_at-line-requires : goal.line_at-line-requires
line_at-line-requires c = line_asked c.args.s.now c.args.at c.args.end c.requires.0 c.requires.1

pub returns-then-line-ne5 : goal.returns-then-line-ne5
returns-then-line-ne5 c =
    let count = counted c.args.s.now c.args.at c.args.end c.requires.0 c.requires.1 c.line_at-line.result c.line_at-line.ensures in
    sym (not_many held_class (line_at c.args.s.now c.args.at).next class_kind (fields_at c.args.s.now c.args.at) (λ n. c.if-line-ne5.true (sym count ∙ n)))

pub class_fields-requires : goal.class_fields-requires
class_fields-requires c =
    field_asked c.args.s.now c.args.at c.args.end c.requires.0 c.requires.1 c.line_at-line.result c.line_at-line.ensures 5 (omega arith) c.if-line-ne5.false

pub returns-in_err-row : goal.returns-in_err-row
returns-in_err-row c =
    let line = lined c.args.s.now c.args.at c.args.end c.requires.0 c.requires.1 c.line_at-line.result c.line_at-line.ensures 5 (omega arith) c.if-line-ne5.false in
    let (f, same, is) = err_from_is_err_and c.from_residual.result c.from_residual.ensures.1 in
    rw (same, is)
    (fields_refused held_class (line_at c.args.s.now c.args.at).next class_kind (fields_at c.args.s.now c.args.at) line.count six (λ r. refl)
    (ap answer (fields_read _ _ _ line) ∙ sym c.class_fields.ensures) (sym c.ok_or.ensures.value ∙ c.in_err-row.was))

pub returns : goal.returns
returns c =
    let line = lined c.args.s.now c.args.at c.args.end c.requires.0 c.requires.1 c.line_at-line.result c.line_at-line.ensures 5 (omega arith) c.if-line-ne5.false in
    ap (λ (l : Line). Ok (c.in_ok-row.row, l.next)) line.same
    ∙ fields_taken held_class (line_at c.args.s.now c.args.at).next class_kind (fields_at c.args.s.now c.args.at) line.count six (λ r. refl)
    (ap answer (fields_read _ _ _ line) ∙ sym c.class_fields.ensures) (sym c.ok_or.ensures.value ∙ c.in_ok-row.was)
