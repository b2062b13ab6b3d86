-- The kit's answer to a sheet and a report buffer (01, "Report and refusal numbers"; 02, c and e), and with it the refusals 1, 2 and 13.
use Rattle.std.specs.Prelude.{ℕ, ◌+◌, ◌*◌, Bool, ◌&&◌, List, [], ◌∷◌, ◌++◌, leb, length, drop}
use Rattle.paper.specs.Units.{Text, Room, Class}
use Rattle.paper.specs.Rows.{Tables}
use Rattle.paper.specs.Currencies.{has_currency}
use Rattle.paper.specs.Refusals.{Outcome, Rule, judged, ◌>>=◌, has_class}
use Rattle.paper.specs.Sheet.{read_sheet}
use Rattle.paper.specs.Report.{Listing, full, quiet, report_of}
use Rattle.paper.specs.Explanation.{explanation_of, explanation_text}
pub use Rattle.paper.specs.Refusals.{refused, accepted}

-- A refusal with its line, or the report: the text that the buffer then begins with
abbrev pub Answer : Type 0
Answer = Outcome Text

-- 1 the buffer has 32,768 bytes or more; 2 the sheet has 65,536 or fewer
abbrev pub room_rules : Room → Text → List Rule
room_rules room sheet = (1, leb 32_768 room) ∷ (2, leb (length sheet) 65_536) ∷ []

-- These rules, then what reading gives
abbrev pub tables_of : Room → Text → Outcome Tables
tables_of room sheet = judged 0 sheet (room_rules room sheet) >>= read_sheet

-- Then the report, with the K lines of a listing
abbrev pub answer_by : Listing → Room → Text → Answer
answer_by listing room sheet = tables_of room sheet >>= λ t. accepted (report_of listing t)

-- ... quiet, as where nothing else is asked for
abbrev pub answer : Room → Text → Answer
answer = answer_by quiet

-- ... full, where that is asked for by name
abbrev pub full_answer : Room → Text → Answer
full_answer = answer_by full

-- Whether a sheet has a currency, in an S row, and a class, in a C row
abbrev pub has_both : Tables → Text → Class → Bool
has_both t currency class = has_currency t.securities currency && has_class t.classes class

-- 13 the sheet has both
abbrev pub ask_rules : Tables → Text → Class → List Rule
ask_rules t currency class = (13, has_both t currency class) ∷ []

-- The answer to a question about a sheet, for a currency by any bytes and a class by any number: behind all other refusals that
-- rule, then the explanation
abbrev pub explained : Room → Text → Text → Class → Answer
explained room sheet currency class =
    tables_of room sheet >>= λ t. judged 0 (explanation_text (explanation_of t currency class)) (ask_rules t currency class)

-- The one number that an entry returns: the text's length in bytes, or 65,536 × refusal + line
abbrev pub number_of : Answer → ℕ
number_of (refused number line) = 65_536 * number + line
number_of (accepted report) = length report

-- What the lent buffer then holds: the text at its start and later bytes as they were, or all as it was
abbrev pub buffer_after : Answer → Text → Text
buffer_after (refused number line) buffer = buffer
buffer_after (accepted report) buffer = report ++ drop (length report) buffer

-- An answer as an entry gives it: the number that it returns, and the buffer as it then is
abbrev pub handed_back : Answer → Text → ℕ × Text
handed_back a buffer = (number_of a, buffer_after a buffer)

-- A kit: a sheet and a lent buffer to what its entry gives
abbrev pub Kit : Type 0
Kit = Text → Text → ℕ × Text

-- The kits of document 01, one for each listing. The contract of `brm_margin` is equality with the quiet one, that of
-- `brm_margin_full` with the full one, so what is proved of them is proved of the entries
unfoldable pub kit : Listing → Kit
kit listing sheet buffer = handed_back (answer_by listing (length buffer) sheet) buffer

-- The kits of 02, c, one for each question. The contract of `brm_explain` is equality with them
unfoldable pub explainer : Text → Class → Kit
explainer currency class sheet buffer = handed_back (explained (length buffer) sheet currency class) buffer
