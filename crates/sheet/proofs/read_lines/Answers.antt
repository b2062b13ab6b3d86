-- `sheet::read_lines` meets its contract: the header, then the D row, then the sections.
use native.Mathlib.Omega.{arith}
use mathlib.Core.Path.{sym, ap, ◌∙◌}
use Rattle.std.proofs.Common.{Err}
use Rattle.answers.specs.declared.Refusal.{Refusal}
use Rattle.sheet.specs.Whole.{held_sheet}
use Rattle.sheet.proofs.Starting.{header_right, header_wrong, header_ended, date_read_lem, date_refused, read_no_header, read_behind}
use Rattle.sheet.proofs.read_lines.Goals as goal

pub returns-in-Err : goal.returns-in-Err
returns-in-Err c =
    let s = c.args.s.now in
    let (number, stops, same) = header_wrong s _ (sym c.header.ensures ∙ c.in-Err.is) in
    ap (λ (f : Refusal). Err (record { refusal = f; line = 1 })) (sym same) ∙ sym (ap held_sheet (read_no_header s number stops))

pub date_row-read-requires : goal.date_row-read-requires
date_row-read-requires c = header_ended c.args.s.now (sym c.header.ensures ∙ c.in_default.is)

pub returns-in_default-read : goal.returns-in_default-read
returns-in_default-read c =
    let s = c.args.s.now in
    let (number, stops, same) = date_refused s _ (sym c.date_row-read.ensures ∙ c.unwrap_err.ensures) in
    ap (λ (f : Refusal). Err (record { refusal = f; line = 2 })) (sym same)
    ∙ sym (ap held_sheet (read_behind s _ (header_right s (sym c.header.ensures ∙ c.in_default.is)) _ stops))

pub tables_from-requires : goal.tables_from-requires
tables_from-requires c =
    let d = date_read_lem c.args.s.now (header_ended c.args.s.now (sym c.header.ensures ∙ c.in_default.is)) _ _ (sym c.date_row-read.ensures ∙ c.in-Ok.is) in
    (c.requires, omega (arith, d.within, c.ended.ensures), c.ended.ensures, d.below)

pub returns : goal.returns
returns c =
    let s = c.args.s.now in
    let d = date_read_lem s (header_ended s (sym c.header.ensures ∙ c.in_default.is)) _ _ (sym c.date_row-read.ensures ∙ c.in-Ok.is) in
    c.tables_from.ensures d.date d.its_day
    ∙ sym (ap held_sheet (read_behind s _ (header_right s (sym c.header.ensures ∙ c.in_default.is)) _ d.read))
