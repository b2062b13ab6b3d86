-- Every public function of every crate: two answers that its contract allows are equal. The functions that are lent what they
-- write fix that too. What reads fixes what is read of a reader whose bytes are known.
use Prim.Native.Nat.{ℕ}
use mathlib.Core.Path.{ap₂}
use Rattle.offsetting.specs.Books.{book_of}
use Rattle.paper.specs.Units.{Text}
use Rattle.lines.specs.Written.{Place}
use Rattle.given.proofs.Reading.{gave_once}
use Rattle.contracts.proofs.Fixed.{FixesSeen, FixesRows, FixesRead, Fixes, one, both}
use Rattle.whole.proofs.nearest.Reads as whole_nearest
use Rattle.whole.proofs.least.Reads as whole_least
use Rattle.whole.proofs.greatest.Reads as whole_greatest
use Rattle.whole.proofs.positive.Reads as whole_positive
use Rattle.whole.proofs.negative.Reads as whole_negative
use Rattle.whole.proofs.above_zero.Reads as whole_above_zero
use Rattle.whole.proofs.below_zero.Reads as whole_below_zero
use Rattle.whole.proofs.rounded.Reads as whole_rounded
use Rattle.whole.proofs.sum.Reads as whole_sum
use Rattle.whole.proofs.difference.Reads as whole_difference
use Rattle.whole.proofs.product.Reads as whole_product
use Rattle.answers.proofs.Refusal.number.Reads as answers_Refusal_number
use Rattle.days.proofs.day_of.Reads as days_day_of
use Rattle.days.proofs.follows.Reads as days_follows
use Rattle.days.proofs.weekday.Reads as days_weekday
use Rattle.days.proofs.is_open.Reads as days_is_open
use Rattle.days.proofs.working_after.Reads as days_working_after
use Rattle.days.proofs.new_years.Reads as days_new_years
use Rattle.tables.proofs.Securities.new.Reads as tables_Securities_new
use Rattle.tables.proofs.rows.Rows.new.Reads as tables_Rows_new
use Rattle.tables.proofs.rows.Rows.len.Reads as tables_Rows_len
use Rattle.tables.proofs.rows.Rows.as_slice.Reads as tables_Rows_as_slice
use Rattle.tables.proofs.rows.Rows.at.Reads as tables_Rows_at
use Rattle.tables.proofs.rows.Rows.push.Reads as tables_Rows_push
use Rattle.tables.proofs.rows.Rows.set.Reads as tables_Rows_set
use Rattle.tables.proofs.no_security.Reads as tables_no_security
use Rattle.tables.proofs.no_tables.Reads as tables_no_tables
use Rattle.tables.proofs.inserted.Reads as tables_inserted
use Rattle.tables.proofs.find.Reads as tables_find
use Rattle.tables.proofs.ranked.Reads as tables_ranked
use Rattle.places.proofs.ended.Reads as places_ended
use Rattle.places.proofs.line_at.Reads as places_line_at
use Rattle.fields.proofs.number.Reads as fields_number
use Rattle.fields.proofs.rate.Reads as fields_rate
use Rattle.fields.proofs.duration.Reads as fields_duration
use Rattle.fields.proofs.date.Reads as fields_date
use Rattle.fields.proofs.day.Reads as fields_day
use Rattle.fields.proofs.kind.Reads as fields_kind
use Rattle.fields.proofs.letter.Reads as fields_letter
use Rattle.codes.proofs.code.Reads as codes_code
use Rattle.codes.proofs.currency.Reads as codes_currency
use Rattle.places.proofs.Line.field.Reads as places_Line_field
use Rattle.places.proofs.Line.is_blank.Reads as places_Line_is_blank
use Rattle.sections.proofs.goes_on.Reads as sections_goes_on
use Rattle.classes.proofs.class_section.Reads as classes_class_section
use Rattle.classes.proofs.class_of.Reads as classes_class_of
use Rattle.priorities.proofs.priority_section.Reads as priorities_priority_section
use Rattle.priorities.proofs.known_classes.Reads as priorities_known_classes
use Rattle.securities.proofs.security_section.Reads as securities_security_section
use Rattle.trades.proofs.trade_section.Reads as trades_trade_section
use Rattle.head.proofs.header.Reads as head_header
use Rattle.head.proofs.date_row.Reads as head_date_row
use Rattle.sheet.proofs.read_sheet.Reads as sheet_read_sheet
use Rattle.valuation.proofs.accrued.Reads as valuation_accrued
use Rattle.valuation.proofs.revaluated.Reads as valuation_revaluated
use Rattle.valuation.proofs.interest.Reads as valuation_interest
use Rattle.valuation.proofs.sign_of.Reads as valuation_sign_of
use Rattle.valuation.proofs.mark_to_market.Reads as valuation_mark_to_market
use Rattle.valuation.proofs.value_of.Reads as valuation_value_of
use Rattle.offsetting.proofs.share.Reads as offsetting_share
use Rattle.offsetting.proofs.Book.offset_row.Reads as offsetting_Book_offset_row
use Rattle.offsetting.proofs.Book.offset_all.Reads as offsetting_Book_offset_all
use Rattle.margin.proofs.figures_of.Reads as margin_figures_of
use Rattle.margin.proofs.opening_of.Reads as margin_opening_of
use Rattle.lines.proofs.mark_line.Reads as lines_mark_line
use Rattle.lines.proofs.position_line.Reads as lines_position_line
use Rattle.lines.proofs.total_line.Reads as lines_total_line
use Rattle.lines.proofs.security_line.Reads as lines_security_line
use Rattle.lines.proofs.taken_line.Reads as lines_taken_line
use Rattle.lines.proofs.setter_line.Reads as lines_setter_line
use Rattle.lines.proofs.refusal_line.Reads as lines_refusal_line
use Rattle.report.proofs.write.Reads as report_write
use Rattle.reasons.proofs.asked.Reads as reasons_asked
use Rattle.reasons.proofs.write.Reads as reasons_write
use Rattle.kit.proofs.brm_margin.Reads as kit_brm_margin
use Rattle.kit.proofs.brm_margin_full.Reads as kit_brm_margin_full
use Rattle.kit.proofs.brm_explain.Reads as kit_brm_explain
use Rattle.shown.proofs.show.Reads as shown_show
use Rattle.shown.proofs.show_why.Reads as shown_show_why
use Rattle.given.proofs.is_there.Reads as given_is_there
use Rattle.given.proofs.word.Reads as given_word
use Rattle.given.proofs.read_full.Reads as given_read_full

pub whole_nearest_fixed : Fixes whole_nearest.Post
whole_nearest_fixed κs a x y s u p q = one p q

pub whole_least_fixed : Fixes whole_least.Post
whole_least_fixed κs a x y s u p q = one p q

pub whole_greatest_fixed : Fixes whole_greatest.Post
whole_greatest_fixed κs a x y s u p q = one p q

pub whole_positive_fixed : Fixes whole_positive.Post
whole_positive_fixed κs a x y s u p q = one p q

pub whole_negative_fixed : Fixes whole_negative.Post
whole_negative_fixed κs a x y s u p q = one p q

pub whole_above_zero_fixed : Fixes whole_above_zero.Post
whole_above_zero_fixed κs a x y s u p q = one p q

pub whole_below_zero_fixed : Fixes whole_below_zero.Post
whole_below_zero_fixed κs a x y s u p q = one p q

pub whole_rounded_fixed : Fixes whole_rounded.Post
whole_rounded_fixed κs a x y s u p q = one p q

pub whole_sum_fixed : Fixes whole_sum.Post
whole_sum_fixed κs a x y s u p q = one p q

pub whole_difference_fixed : Fixes whole_difference.Post
whole_difference_fixed κs a x y s u p q = one p q

pub whole_product_fixed : Fixes whole_product.Post
whole_product_fixed κs a x y s u p q = one p q

pub answers_Refusal_number_fixed : Fixes answers_Refusal_number.Post
answers_Refusal_number_fixed κs a x y s u p q = one p q

pub days_day_of_fixed : Fixes days_day_of.Post
days_day_of_fixed κs a x y s u p q = one p q

pub days_follows_fixed : Fixes days_follows.Post
days_follows_fixed κs a x y s u p q = one p q

pub days_weekday_fixed : Fixes days_weekday.Post
days_weekday_fixed κs a x y s u p q = one p q

pub days_is_open_fixed : Fixes days_is_open.Post
days_is_open_fixed κs a x y s u p q = one p q

pub days_working_after_fixed : Fixes days_working_after.Post
days_working_after_fixed κs a x y s u p q = one p q

pub days_new_years_fixed : FixesSeen days_new_years.Post (λ κs x s. x.now)
days_new_years_fixed κs a x y s u p q = one p q

pub tables_Securities_new_fixed : Fixes tables_Securities_new.Post
tables_Securities_new_fixed κs a x y s u p q = one p q

pub tables_Rows_new_fixed : FixesRows tables_Rows_new.Post (λ T n x s. x.items)
tables_Rows_new_fixed T n laws fits copy b bd c cd κs a x y s u p q = one p q

pub tables_Rows_len_fixed : FixesRows tables_Rows_len.Post (λ T n x s. x)
tables_Rows_len_fixed T n laws fits copy b bd c cd κs a x y s u p q = one p.0 q.0

pub tables_Rows_as_slice_fixed : FixesRows tables_Rows_as_slice.Post (λ T n x s. x.now)
tables_Rows_as_slice_fixed T n laws fits copy b bd c cd κs a x y s u p q = one p.0 q.0

pub tables_Rows_at_fixed : FixesRows tables_Rows_at.Post (λ T n x s. x)
tables_Rows_at_fixed T n laws fits copy b bd c cd κs a x y s u p q = one p q

pub tables_Rows_push_fixed : FixesRows tables_Rows_push.Post (λ T n x s. s.0.now.items)
tables_Rows_push_fixed T n laws fits copy b bd c cd κs a x y s u p q = one p.0 q.0

pub tables_Rows_set_fixed : FixesRows tables_Rows_set.Post (λ T n x s. s.0.now.items)
tables_Rows_set_fixed T n laws fits copy b bd c cd κs a x y s u p q = one p q

pub tables_no_security_fixed : Fixes tables_no_security.Post
tables_no_security_fixed κs a x y s u p q = one p q

pub tables_no_tables_fixed : Fixes tables_no_tables.Post
tables_no_tables_fixed κs a x y s u p q = one p q

pub tables_inserted_fixed : Fixes tables_inserted.Post
tables_inserted_fixed κs a x y s u p q = one p q

pub tables_find_fixed : Fixes tables_find.Post
tables_find_fixed κs a x y s u p q = one p q

pub tables_ranked_fixed : Fixes tables_ranked.Post
tables_ranked_fixed κs a x y s u p q = one p q

pub places_ended_fixed : Fixes places_ended.Post
places_ended_fixed κs a x y s u p q = one p q

pub places_line_at_fixed : Fixes places_line_at.Post
places_line_at_fixed κs a x y s u p q = one p q

pub fields_number_fixed : Fixes fields_number.Post
fields_number_fixed κs a x y s u p q = one p q

pub fields_rate_fixed : Fixes fields_rate.Post
fields_rate_fixed κs a x y s u p q = one p q

pub fields_duration_fixed : Fixes fields_duration.Post
fields_duration_fixed κs a x y s u p q = one p q

pub fields_date_fixed : Fixes fields_date.Post
fields_date_fixed κs a x y s u p q = one p q

pub fields_day_fixed : Fixes fields_day.Post
fields_day_fixed κs a x y s u p q = one p q

pub fields_kind_fixed : Fixes fields_kind.Post
fields_kind_fixed κs a x y s u p q = one p q

pub fields_letter_fixed : Fixes fields_letter.Post
fields_letter_fixed κs a x y s u p q = one p q

pub codes_code_fixed : Fixes codes_code.Post
codes_code_fixed κs a x y s u p q = one p q

pub codes_currency_fixed : Fixes codes_currency.Post
codes_currency_fixed κs a x y s u p q = one p q

pub places_Line_field_fixed : FixesSeen places_Line_field.Post (λ κs x s. x.now)
places_Line_field_fixed κs a x y s u p q = one p q

pub places_Line_is_blank_fixed : Fixes places_Line_is_blank.Post
places_Line_is_blank_fixed κs a x y s u p q = one p q

pub sections_goes_on_fixed : Fixes sections_goes_on.Post
sections_goes_on_fixed κs a x y s u p q = one p q

pub classes_class_section_fixed : Fixes classes_class_section.Post
classes_class_section_fixed κs a x y s u p q = one p q

pub classes_class_of_fixed : Fixes classes_class_of.Post
classes_class_of_fixed κs a x y s u p q = one p q

pub priorities_priority_section_fixed : Fixes priorities_priority_section.Post
priorities_priority_section_fixed κs a x y s u p q = one p q

pub priorities_known_classes_fixed : Fixes priorities_known_classes.Post
priorities_known_classes_fixed κs a x y s u p q = one p q

pub securities_security_section_fixed : Fixes securities_security_section.Post
securities_security_section_fixed κs a x y s u p q = one p q

pub trades_trade_section_fixed : Fixes trades_trade_section.Post
trades_trade_section_fixed κs a x y s u p q = one p q

pub head_header_fixed : Fixes head_header.Post
head_header_fixed κs a x y s u p q = one p q

pub head_date_row_fixed : Fixes head_date_row.Post
head_date_row_fixed κs a x y s u p q = one p q

pub sheet_read_sheet_fixed : Fixes sheet_read_sheet.Post
sheet_read_sheet_fixed κs a x y s u p q = one p q

pub valuation_accrued_fixed : Fixes valuation_accrued.Post
valuation_accrued_fixed κs a x y s u p q = one p q

pub valuation_revaluated_fixed : Fixes valuation_revaluated.Post
valuation_revaluated_fixed κs a x y s u p q = one p q

pub valuation_interest_fixed : Fixes valuation_interest.Post
valuation_interest_fixed κs a x y s u p q = one p q

pub valuation_sign_of_fixed : Fixes valuation_sign_of.Post
valuation_sign_of_fixed κs a x y s u p q = one p q

pub valuation_mark_to_market_fixed : Fixes valuation_mark_to_market.Post
valuation_mark_to_market_fixed κs a x y s u p q = one p q

pub valuation_value_of_fixed : Fixes valuation_value_of.Post
valuation_value_of_fixed κs a x y s u p q = one p q

pub offsetting_share_fixed : Fixes offsetting_share.Post
offsetting_share_fixed κs a x y s u p q = one p q

pub offsetting_Book_offset_row_fixed : FixesSeen offsetting_Book_offset_row.Post (λ κs x s. book_of s.0.now)
offsetting_Book_offset_row_fixed κs a x y s u p q = one p q

pub offsetting_Book_offset_all_fixed : FixesSeen offsetting_Book_offset_all.Post (λ κs x s. book_of s.0.now)
offsetting_Book_offset_all_fixed κs a x y s u p q = one p q

pub margin_figures_of_fixed : Fixes margin_figures_of.Post
margin_figures_of_fixed κs a x y s u p q = one p q

pub margin_opening_of_fixed : Fixes margin_opening_of.Post
margin_opening_of_fixed κs a x y s u p q = one p.0 q.0

pub lines_mark_line_fixed : FixesSeen lines_mark_line.Post {B = Place × Text} (λ κs x s. (x, s.0.now))
lines_mark_line_fixed κs a x y s u p q = both p q

pub lines_position_line_fixed : FixesSeen lines_position_line.Post {B = Place × Text} (λ κs x s. (x, s.0.now))
lines_position_line_fixed κs a x y s u p q = both p q

pub lines_total_line_fixed : FixesSeen lines_total_line.Post {B = Place × Text} (λ κs x s. (x, s.0.now))
lines_total_line_fixed κs a x y s u p q = both p q

pub lines_security_line_fixed : FixesSeen lines_security_line.Post {B = Place × Text} (λ κs x s. (x, s.0.now))
lines_security_line_fixed κs a x y s u p q = both p q

pub lines_taken_line_fixed : FixesSeen lines_taken_line.Post {B = Place × Text} (λ κs x s. (x, s.0.now))
lines_taken_line_fixed κs a x y s u p q = both p q

pub lines_setter_line_fixed : FixesSeen lines_setter_line.Post {B = Place × Text} (λ κs x s. (x, s.0.now))
lines_setter_line_fixed κs a x y s u p q = both p q

pub lines_refusal_line_fixed : FixesSeen lines_refusal_line.Post {B = Place × Text} (λ κs x s. (x, s.0.now))
lines_refusal_line_fixed κs a x y s u p q = both p q

pub report_write_fixed : FixesSeen report_write.Post {B = Place × Text} (λ κs x s. (x, s.0.now))
report_write_fixed κs a x y s u p q = both p q

pub reasons_asked_fixed : Fixes reasons_asked.Post
reasons_asked_fixed κs a x y s u p q = one p q

pub reasons_write_fixed : FixesSeen reasons_write.Post {B = Place × Text} (λ κs x s. (x, s.0.now))
reasons_write_fixed κs a x y s u p q = both p q

pub kit_brm_margin_fixed : FixesSeen kit_brm_margin.Post {B = ℕ × Text} (λ κs x s. (x, s.1.0.now))
kit_brm_margin_fixed κs a x y s u p q = one p q

pub kit_brm_margin_full_fixed : FixesSeen kit_brm_margin_full.Post {B = ℕ × Text} (λ κs x s. (x, s.1.0.now))
kit_brm_margin_full_fixed κs a x y s u p q = one p q

pub kit_brm_explain_fixed : FixesSeen kit_brm_explain.Post {B = ℕ × Text} (λ κs x s. (x, s.1.1.1.0.now))
kit_brm_explain_fixed κs a x y s u p q = one p q

pub shown_show_fixed : FixesSeen shown_show.Post {B = Place × Text} (λ κs x s. (x, s.1.0.now))
shown_show_fixed κs a x y s u p q = both p.0 q.0

pub shown_show_why_fixed : FixesSeen shown_show_why.Post {B = Place × Text} (λ κs x s. (x, s.1.1.1.0.now))
shown_show_why_fixed κs a x y s u p q = both p.0 q.0

pub given_is_there_fixed : Fixes given_is_there.Post
given_is_there_fixed κs a x y s u p q = one p q

pub given_word_fixed : FixesSeen given_word.Post {B = Text} (λ κs x s. x.now)
given_word_fixed κs a x y s u p q = one p q

pub given_read_full_fixed : FixesRead given_read_full.Post
given_read_full_fixed R laws g dict κs a x y s u bytes known p q =
    let (same, left) = gave_once _ bytes x.now y.now (g.remaining s.0.now) (g.remaining u.0.now) (rw known at p.1.0) (rw known at q.1.0) in
    ap₂ (λ text others. (text, others)) same left
