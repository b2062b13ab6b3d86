-- Both sides of every limit, as the checker computes them.
use Rattle.std.specs.Prelude.{refl}
use Rattle.paper.specs.Rounding.{nearest, rounded}
use Rattle.paper.specs.Days.{is_open, working_after}
use Rattle.paper.specs.Text.{lines, number_in, date_in, has_code_form, has_check_digit, is_code, digits}
use Rattle.paper.specs.Valuation.{valued_from}
use Rattle.paper.specs.Sheet.{rows_from, read_sheet}
use Rattle.paper.specs.Offsetting.{summed, offset_row, offset_all}
use Rattle.paper.specs.Report.{class_line, currency_lines, report_of}
use Rattle.paper.specs.Limits.{Limits}

-- The claim
pub limits : Limits
unfolding nearest rounded is_open working_after lines number_in date_in has_code_form has_check_digit is_code digits valued_from rows_from read_sheet summed offset_row offset_all class_line currency_lines report_of
limits = (refl, refl, refl, refl, refl, refl, refl, refl, refl, refl, refl, refl, refl, refl, refl, refl, refl, refl, refl, refl, refl, refl, refl, refl, refl, refl, refl, refl, refl, refl, refl, refl, refl, refl, refl, refl, refl, refl, refl, refl, refl, refl, refl, refl, refl, refl, refl, refl, refl, refl, refl, refl, refl, refl, refl, refl, refl, refl, refl, refl, refl, refl, refl, refl, refl, refl, refl, refl, refl, refl, refl, refl, refl, refl, refl, refl, refl, refl, refl, refl, refl, refl, refl, refl, refl, refl, refl, refl, refl, refl, refl, refl, refl, refl, refl, refl, refl, refl, refl, refl, refl, refl, refl, refl, refl, refl, refl)
