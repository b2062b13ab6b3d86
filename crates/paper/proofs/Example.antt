-- Document 01's sheet has the report and the explanations of the paper, as the checker computes them.
use Rattle.std.specs.Prelude.{true, false, ◌≡◌, refl}
use Rattle.paper.specs.Rounding.{nearest, rounded}
use Rattle.paper.specs.Days.{is_open, working_after}
use Rattle.paper.specs.Text.{ascii, lines, number_in, date_in, has_code_form, has_check_digit, is_code, digits}
use Rattle.paper.specs.Valuation.{valued_from}
use Rattle.paper.specs.Sheet.{rows_from, read_sheet}
use Rattle.paper.specs.Offsetting.{summed, offset_row, offset_all}
use Rattle.paper.specs.Report.{Listing, class_line, currency_lines, report_of}
use Rattle.paper.specs.Explanation.{explanation_of, explanation_text}
use Rattle.paper.specs.Answer.{answer_by, explained, accepted}
use Rattle.paper.specs.Example.{sheet, report, reason, short_reason}

-- The report is that of the sheet, full and quiet: each class has something left
pub printed : (listing : Listing) → answer_by listing 32_768 sheet ≡ accepted report
unfolding nearest rounded is_open working_after lines number_in date_in has_code_form has_check_digit is_code digits valued_from rows_from read_sheet summed offset_row offset_all class_line currency_lines report_of
printed true = refl
printed false = refl

-- ... and the reason that of class 6
pub explains : explained 32_768 sheet (ascii "EUR") 6 ≡ accepted reason
unfolding nearest rounded is_open working_after lines number_in date_in has_code_form has_check_digit is_code digits valued_from rows_from read_sheet summed offset_row offset_all explanation_of explanation_text
explains = refl

-- ... and of class 7
pub explains_short : explained 32_768 sheet (ascii "EUR") 7 ≡ accepted short_reason
unfolding nearest rounded is_open working_after lines number_in date_in has_code_form has_check_digit is_code digits valued_from rows_from read_sheet summed offset_row offset_all explanation_of explanation_text
explains_short = refl
