-- `securities::security_row` meets its contract: its line is found, and what its fields and its dates give is handed on.
use native.Mathlib.Omega.{arith}
use mathlib.Core.List.{[]}
use mathlib.Core.Path.{◌≡◌, refl, sym, ap, ◌∙◌}
use Rattle.std.proofs.Common.{Ok, ◌+◌, get_or}
use Rattle.std.proofs.lemmas.Result.{err_from_is_err_and}
use Rattle.paper.specs.Refusals.{security_kind, security_fields, follows}
use Rattle.paper.specs.Rows as paper
use Rattle.paper.specs.Rows.{read_security}
use Rattle.places.specs.declared.Line.{Line}
use Rattle.places.specs.Places.{Place, line_at}
use Rattle.paper.specs.Units.{Text}
use Rattle.answers.specs.Options.{answer}
use Rattle.sections.specs.Sections.{fields_at}
use Rattle.sections.proofs.Reading.{Lined, line_asked, counted, lined, field_asked, not_many, by_fields, by_dates, dated_none, dated_refused, dated_taken}
use Rattle.securities.specs.Read.{held_terms, held_row, security_read}
use Rattle.securities.proofs.Row.{end, dates, whole, dated, terms_read, days_read}
use Rattle.securities.specs.declared.SecurityRow.{SecurityRow}
use Rattle.securities.proofs.security_row.Goals as goal

-- What the row is by its fields
module _ (s : Text) (at : Place) {line : Line} (l : Lined s at line 10) where
  answered : by_fields (held_row s at) (line_at s at).next (security_kind []) (fields_at s at) (dates s at) (whole s at) (end (read_security (fields_at s at)))
      ≡ security_read s at
  answered =
      sym (by_dates (held_row s at) (line_at s at).next (security_kind []) (fields_at s at) (dates s at) (whole s at) l.count security_fields
      (λ (r : paper.SecurityRow). follows 400 r.previous r.next) (λ r. refl) held_terms (dated s at))

pub line_at-line-requires : goal.line_at-line-requires
line_at-line-requires c = line_asked c.args.s.now c.args.at c.args.end c.requires.0 c.requires.1

pub returns-then-line-ne10 : goal.returns-then-line-ne10
returns-then-line-ne10 c =
    let count = counted c.args.s.now c.args.at c.args.end c.requires.0 c.requires.1 c.line_at-line.result c.line_at-line.ensures in
    sym (not_many (held_row c.args.s.now c.args.at) (line_at c.args.s.now c.args.at).next (security_kind []) (fields_at c.args.s.now c.args.at) (λ n. c.if-line-ne10.true (sym count ∙ n)))

pub security_terms-requires : goal.security_terms-requires
security_terms-requires c =
    field_asked c.args.s.now c.args.at c.args.end c.requires.0 c.requires.1 c.line_at-line.result c.line_at-line.ensures 10 (omega arith) c.if-line-ne10.false

pub coupon_dates-requires : goal.coupon_dates-requires
coupon_dates-requires c =
    field_asked c.args.s.now c.args.at c.args.end c.requires.0 c.requires.1 c.line_at-line.result c.line_at-line.ensures 10 (omega arith) c.if-line-ne10.false

pub overflow_add-row : goal.overflow_add-row
overflow_add-row c =
    let stands =
    field_asked c.args.s.now c.args.at c.args.end c.requires.0 c.requires.1 c.line_at-line.result c.line_at-line.ensures 10 (omega arith) c.if-line-ne10.false 0 (omega arith)
    in
    omega (arith, stands.ordered, stands.inside)

pub returns-in_err-terms : goal.returns-in_err-terms
returns-in_err-terms c =
    let s = c.args.s.now in
    let at = c.args.at in
    let line = lined s at c.args.end c.requires.0 c.requires.1 c.line_at-line.result c.line_at-line.ensures 10 (omega arith) c.if-line-ne10.false in
    let (f, same, is) = err_from_is_err_and c.from_residual.result c.from_residual.ensures.1 in
    rw (same, is)
    (dated_none (held_row s at) (line_at s at).next (security_kind []) (fields_at s at) (dates s at) (whole s at) (end (read_security (fields_at s at)))
    (c.security_terms.ensures ∙ ap answer (sym (terms_read s at _ line))) (sym c.ok_or.ensures.value ∙ c.in_err-terms.was)
    ∙ answered s at line)

pub returns-in_err-previous : goal.returns-in_err-previous
returns-in_err-previous c =
    let s = c.args.s.now in
    let at = c.args.at in
    let line = lined s at c.args.end c.requires.0 c.requires.1 c.line_at-line.result c.line_at-line.ensures 10 (omega arith) c.if-line-ne10.false in
    let (f, same, is) = err_from_is_err_and c.from_residual-in_err-previous.result c.from_residual-in_err-previous.ensures.1 in
    rw (same, is)
    (dated_refused (held_row s at) (line_at s at).next (security_kind []) (fields_at s at) (dates s at) (whole s at) (end (read_security (fields_at s at)))
    (c.security_terms.ensures ∙ ap answer (sym (terms_read s at _ line))) (sym c.ok_or.ensures.value ∙ c.in_ok-terms.was)
    (c.coupon_dates.ensures ∙ ap answer (days_read s at _ line c.in_ok-terms.terms)) (sym c.ok_or-2.ensures.value ∙ c.in_err-previous.was)
    ∙ answered s at line)

pub returns : goal.returns
returns c =
    let s = c.args.s.now in
    let at = c.args.at in
    let line = lined s at c.args.end c.requires.0 c.requires.1 c.line_at-line.result c.line_at-line.ensures 10 (omega arith) c.if-line-ne10.false in
    let row : Line → SecurityRow = λ l. record { code = get_or l.ends 0 0 + 1; terms = c.in_ok-terms.terms; previous = c.in_ok-previous.previous; next = c.in_ok-previous.next } in
    ap (λ (l : Line). Ok (row l, l.next)) line.same
    ∙ dated_taken (held_row s at) (line_at s at).next (security_kind []) (fields_at s at) (dates s at) (whole s at) (end (read_security (fields_at s at)))
    (c.security_terms.ensures ∙ ap answer (sym (terms_read s at _ line))) (sym c.ok_or.ensures.value ∙ c.in_ok-terms.was)
    (c.coupon_dates.ensures ∙ ap answer (days_read s at _ line c.in_ok-terms.terms)) (sym c.ok_or-2.ensures.value ∙ c.in_ok-previous.was)
    ∙ answered s at line
