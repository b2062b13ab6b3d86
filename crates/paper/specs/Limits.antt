-- The borders of document 01 in one table that the checker computes: what is just taken, what is just refused and by which
-- number. A border moved in the paper and in the code alike is seen here.
use Rattle.std.specs.Prelude.{ℕ, ◌+◌, ◌-◌, true, false, List, [], ◌∷◌, map, ◌≡◌, eqb, pos, neg_ℤ, get_or, set, take, replicate}
use Prim.Native.String.{String}
use Rattle.std.proofs.Math.Option.{Option, none, some}
use Rattle.paper.specs.Units.{Text, Number, Line, Class, Duration, SignedCents, Whole}
use Rattle.paper.specs.Lists.{joined_up, given}
use Rattle.paper.specs.Signs.{above_zero, below_zero}
use Rattle.paper.specs.Rounding.{less_than_half, tie, more_than_half, by_half, nearest, rounded}
use Rattle.paper.specs.Days.{day, is_day, working_after}
use Rattle.paper.specs.Text.{ascii, LF, semicolon, pieces, lines, parted, is_digit, is_letter, number_in}
use Rattle.paper.specs.Rows.{Kind, government, corporate, inflation, floating, cash, seller, ClassRow, PriorityRow, SecurityRow, TradeRow, kind_in, read_priority}
use Rattle.paper.specs.Valuation.{valued_in}
use Rattle.paper.specs.Refusals.{Outcome, refused, accepted, Rule, judged, is_duration, rules_of, period_of, class_kind, priority_kind, security_kind, trade_kind}
use Rattle.paper.specs.Sheet.{read_sheet}
use Rattle.paper.specs.Offsetting.{Book, position, summed, offset_row, margin, total}
use Rattle.paper.specs.Report.{full, quiet, is_listed}
use Rattle.paper.specs.Explanation.{Took, by_long, by_short, by_both, is_net, took_any, setter_of}
use Rattle.paper.specs.Answer.{answer, full_answer, explained, number_of, buffer_after}
use Rattle.paper.specs.Quiet.{is_zero_line}
use Rattle.paper.specs.Example.{sheet}

-- Document 01's sheet with another text in a field of a line; field 0 is the letter
abbrev changed : Line → ℕ → String → Text
changed at place text =
    let rows = pieces LF sheet in
    let fields = pieces semicolon (get_or rows (at - 1) []) in
    parted LF (set rows (at - 1) (parted semicolon (set fields place (ascii text))))

-- No refusal
abbrev ok : Number
ok = 0

-- The number of a refusal on a line; a refusal further down leaves the line taken
abbrev refusal_on : {A : Type 0} → Line → Outcome A → Number
refusal_on seen (accepted a) = ok
refusal_on seen (refused number line) = elim (eqb line seen) [ true ↦ number | false ↦ ok ]

-- What one line gets, for some texts in a field of another
abbrev seen_on : Line → Line → ℕ → List String → List Number
seen_on seen at place texts = map (λ text. refusal_on seen (read_sheet (changed at place text))) texts

-- What a line gets, for some texts in a field of its own
abbrev line : Line → ℕ → List String → List Number
line at place texts = seen_on at at place texts

-- The mark-to-market of each margined trade, in cents
abbrev marks : Line → ℕ → String → List SignedCents
marks at place text =
    elim (read_sheet (changed at place text)) [ refused number line ↦ [] | accepted t ↦ map (λ v. v.mark) (valued_in t) ]

-- What the rules of a row give
abbrev first : List Rule → Number
first rules = refusal_on 0 (judged 0 rules rules)

-- A C row, by class, kind and border in ten-thousandths of a year
abbrev class : Class → Kind → Option Duration → ClassRow
class n kind border = record { class = n; kind = kind; border = border; deposit = 0 }

-- Two C rows, the lower one first
abbrev classes : List ClassRow
classes = class 2 corporate (some 5) ∷ class 1 government (some 5) ∷ []

-- An O row
abbrev priority : PriorityRow
priority = record { first = 1; second = 2; factor = 10_000 }

-- An S row, by code and currency
abbrev bond : String → String → SecurityRow
bond code currency =
    record { code = ascii code; currency = ascii currency; kind = government; duration = some 5; price = 1; coupon = 0; payments = 1; previous = 20_190_101; next = 20_200_101 }

-- What an S row in a currency gets below so many rows, each in another
abbrev below : ℕ → String → Number
below many currency =
    let above : List String = take many ("AAA" ∷ "BBB" ∷ "CCC" ∷ "DDD" ∷ "EEE" ∷ "FFF" ∷ "GGG" ∷ "HHH" ∷ []) in
    first (rules_of (security_kind classes) (map (bond "AA0000000014") above) (bond "ZZ0000000016" currency))

-- A T row
abbrev sale : TradeRow
sale =
    record { trade = cash; side = seller; code = ascii "ZZ0000000016"; nominal = 1; amount = 1; first = 20_190_614; last = none; rate = none }

-- The full report of document 01's sheet where line 8 has francs
abbrev francs : Text
francs =
    joined_up
    (ascii "M;9;EUR;1028170\nM;10;CHF;100000\n"
    ∷ ascii "K;CHF;6;0;0;0\nK;CHF;7;0;600000;29400\nZ;CHF;100000;29400;2840000\n"
    ∷ ascii "K;EUR;6;1110160;0;39411\nK;EUR;7;0;0;0\nZ;EUR;1028170;39411;2912930\n"
    ∷ [])

-- ... and the quiet one
abbrev quiet_francs : Text
quiet_francs =
    joined_up
    (ascii "M;9;EUR;1028170\nM;10;CHF;100000\n"
    ∷ ascii "K;CHF;7;0;600000;29400\nZ;CHF;100000;29400;2840000\n"
    ∷ ascii "K;EUR;6;1110160;0;39411\nZ;EUR;1028170;39411;2912930\n"
    ∷ [])

-- Positions of class 1, whole units
abbrev remaining : Whole → Whole → Book
remaining long short = record { long = 0 ∷ long ∷ []; short = 0 ∷ short ∷ [] }

-- What a row took, off the long and off the short: whole units
abbrev took : Whole → Whole → Took
took long short = record { line = 6; long = long; short = short }

-- The table: a line, a field, texts for it and what each gives
abbrev pub Limits : Type 0
Limits =
    -- Line 1: the mark and the version
    (line 1 0 ("BRM" ∷ "BRN" ∷ []) ≡ ok ∷ 3 ∷ []) × (line 1 1 ("1" ∷ "2" ∷ "" ∷ []) ≡ ok ∷ 4 ∷ 4 ∷ [])
    -- D: calculation date, a day of 2000 on, no later than 23991220
    × (line 2 1 ("19991231" ∷ "20000101" ∷ "23991220" ∷ "23991221" ∷ "" ∷ []) ≡ 7 ∷ ok ∷ ok ∷ 7 ∷ 7 ∷ [])
    -- C: class 1..40, rising; kind; border 1..1,000,000, rising for each kind; deposit factor 0..10,000
    × (line 3 1 ("" ∷ "0" ∷ "1" ∷ []) ≡ 6 ∷ 6 ∷ ok ∷ []) × (line 4 1 ("6" ∷ "40" ∷ "41" ∷ []) ≡ 9 ∷ ok ∷ 6 ∷ [])
    × (line 3 2 ("G" ∷ "C" ∷ "I" ∷ "F" ∷ "" ∷ []) ≡ ok ∷ ok ∷ 6 ∷ 6 ∷ 6 ∷ [])
    × (line 3 3 ("" ∷ "0" ∷ "1" ∷ "1000000" ∷ "1000001" ∷ []) ≡ 6 ∷ 6 ∷ ok ∷ ok ∷ 6 ∷ [])
    × (line 4 3 ("32500" ∷ "32501" ∷ []) ≡ 9 ∷ ok ∷ [])
    × (map (λ c. first (rules_of class_kind classes c)) (class 3 government (some 5) ∷ class 3 government (some 6) ∷ class 2 government (some 6) ∷ []) ≡ 9 ∷ ok ∷ 9 ∷ [])
    × (line 3 4 ("" ∷ "0" ∷ "10000" ∷ "10001" ∷ []) ≡ 6 ∷ ok ∷ ok ∷ 6 ∷ [])
    -- O: class; class, both on the sheet; factor 0..10,000
    × (line 6 1 ("0" ∷ "5" ∷ "6" ∷ "7" ∷ "8" ∷ "41" ∷ []) ≡ 6 ∷ 10 ∷ ok ∷ ok ∷ 10 ∷ 6 ∷ [])
    × (line 6 2 ("0" ∷ "5" ∷ "6" ∷ "7" ∷ "8" ∷ "41" ∷ []) ≡ 6 ∷ 10 ∷ ok ∷ ok ∷ 10 ∷ 6 ∷ [])
    × (line 6 3 ("" ∷ "0" ∷ "10000" ∷ "10001" ∷ []) ≡ 6 ∷ ok ∷ ok ∷ 6 ∷ [])
    -- S: code, rising; currency; kind; duration 1..1,000,000, and the class for it; price 1..20,000,000; coupon 0..2,000,000;
    -- payments a year 1, 2 or 4; next coupon date 1 to 400 days after 20190101
    × (line 8 1 ("FR0011337880" ∷ "FR0011337898" ∷ "ZZZZZZZZZZZ6" ∷ []) ≡ 9 ∷ ok ∷ ok ∷ [])
    × (line 8 1 ("Z00000000014" ∷ "ZZ00000000-6" ∷ "ZZ000000001Z" ∷ "ZZ000000002" ∷ "ZZ00000000168" ∷ "" ∷ []) ≡ 6 ∷ 6 ∷ 6 ∷ 6 ∷ 6 ∷ 6 ∷ [])
    × (line 8 2 ("EU" ∷ "EU1" ∷ "USD" ∷ "EURO" ∷ []) ≡ 6 ∷ 6 ∷ ok ∷ 6 ∷ [])
    × (line 8 3 ("G" ∷ "C" ∷ "I" ∷ "F" ∷ "" ∷ []) ≡ ok ∷ 11 ∷ 6 ∷ 6 ∷ 6 ∷ [])
    × (line 8 4 ("" ∷ "0" ∷ "1" ∷ "47500" ∷ "47501" ∷ "1000000" ∷ "1000001" ∷ []) ≡ 6 ∷ 6 ∷ ok ∷ ok ∷ 11 ∷ 11 ∷ 6 ∷ [])
    × (line 8 5 ("" ∷ "0" ∷ "1" ∷ "20000000" ∷ "20000001" ∷ []) ≡ 6 ∷ 6 ∷ ok ∷ ok ∷ 6 ∷ [])
    × (line 8 6 ("" ∷ "0" ∷ "2000000" ∷ "2000001" ∷ []) ≡ 6 ∷ ok ∷ ok ∷ 6 ∷ [])
    × (line 8 7 ("0" ∷ "1" ∷ "2" ∷ "3" ∷ "4" ∷ "5" ∷ []) ≡ 6 ∷ ok ∷ ok ∷ 6 ∷ ok ∷ 6 ∷ [])
    × (line 8 9 ("20190101" ∷ "20190102" ∷ "20200205" ∷ "20200206" ∷ "" ∷ []) ≡ 7 ∷ ok ∷ ok ∷ 7 ∷ 7 ∷ [])
    -- Border and duration are blank exactly for kinds I and F, which have at most one class each
    × (map (λ kind. is_duration kind none) (government ∷ corporate ∷ inflation ∷ floating ∷ []) ≡ false ∷ false ∷ true ∷ true ∷ [])
    × (map (λ kind. is_duration kind (some 1)) (government ∷ corporate ∷ inflation ∷ floating ∷ []) ≡ true ∷ true ∷ false ∷ false ∷ [])
    × (map (λ kind. first (rules_of class_kind (class 1 inflation none ∷ []) (class 2 kind none))) (inflation ∷ floating ∷ []) ≡ 9 ∷ ok ∷ [])
    -- T: R or C; S or P; a code of the sheet; nominal 1..100,000,000; amount 1..30,000,000,000; a repo's last date 1 to 730
    -- days after 20190603; rate -200,000..200,000; both blank for cash
    × (line 9 1 ("R" ∷ "C" ∷ "" ∷ []) ≡ ok ∷ 6 ∷ 6 ∷ []) × (line 9 2 ("S" ∷ "P" ∷ "" ∷ []) ≡ ok ∷ ok ∷ 6 ∷ [])
    × (line 9 3 ("ZZ0000000016" ∷ "ZZ0000000024" ∷ "ZZ0000000025" ∷ "" ∷ []) ≡ ok ∷ 10 ∷ 6 ∷ 6 ∷ [])
    × (line 9 4 ("" ∷ "0" ∷ "1" ∷ "100000000" ∷ "100000001" ∷ []) ≡ 6 ∷ 6 ∷ ok ∷ ok ∷ 6 ∷ [])
    × (line 9 5 ("" ∷ "0" ∷ "1" ∷ "30000000000" ∷ "30000000001" ∷ []) ≡ 6 ∷ 6 ∷ ok ∷ ok ∷ 6 ∷ [])
    × (line 9 7 ("20190603" ∷ "20190604" ∷ "20210602" ∷ "20210603" ∷ "" ∷ []) ≡ 7 ∷ ok ∷ ok ∷ 7 ∷ 7 ∷ [])
    × (line 9 8 ("-200001" ∷ "-200000" ∷ "-0" ∷ "0" ∷ "200000" ∷ "200001" ∷ "" ∷ []) ≡ 6 ∷ ok ∷ 6 ∷ ok ∷ ok ∷ 6 ∷ 6 ∷ [])
    × (line 10 6 ("" ∷ []) ≡ 7 ∷ []) × (line 10 7 ("20190701" ∷ []) ≡ 6 ∷ []) × (line 10 8 ("0" ∷ []) ≡ 6 ∷ [])
    -- An unknown letter; a field too many
    × (map (λ at. line at 0 ("X" ∷ [])) (2 ∷ 3 ∷ 5 ∷ 7 ∷ 9 ∷ []) ≡ replicate 5 (5 ∷ []))
    × (map (λ at. line at 1 ("6;6" ∷ [])) (2 ∷ 3 ∷ 5 ∷ 7 ∷ 9 ∷ []) ≡ replicate 5 (5 ∷ []))
    -- Rows: at most 40 C, 200 O, 200 S, 500 T; at most 8 currencies
    × (map (λ above. first (rules_of class_kind (replicate above (class 1 government (some 5))) (class 40 corporate (some 5)))) (39 ∷ 40 ∷ []) ≡ ok ∷ 8 ∷ [])
    × (map (λ above. first (rules_of (priority_kind classes) (replicate above priority) priority)) (199 ∷ 200 ∷ []) ≡ ok ∷ 8 ∷ [])
    × (map (λ above. first (rules_of (security_kind classes) (replicate above (bond "AA0000000014" "EUR")) (bond "ZZ0000000016" "EUR"))) (199 ∷ 200 ∷ [])
    ≡ ok ∷ 8 ∷ [])
    × (map (λ above. first (rules_of (trade_kind (day 20_190_612) (period_of (bond "ZZ0000000016" "EUR" ∷ []))) (replicate above sale) sale)) (499 ∷ 500 ∷ []) ≡ ok ∷ 8 ∷ [])
    × (below 7 "EUR" ≡ ok) × (below 8 "EUR" ≡ 8) × (below 8 "AAA" ≡ ok)
    -- Accrual at or after the previous coupon date, before the next: the repo's on 20190613, a day after calculation; cash on 20190614
    × (seen_on 9 7 8 ("20190613" ∷ "20190614" ∷ []) ≡ ok ∷ 12 ∷ []) × (seen_on 9 7 9 ("20190613" ∷ "20190614" ∷ []) ≡ 12 ∷ ok ∷ [])
    × (seen_on 10 8 8 ("20190614" ∷ "20190615" ∷ []) ≡ ok ∷ 12 ∷ []) × (seen_on 10 8 9 ("20190614" ∷ "20190615" ∷ []) ≡ 12 ∷ ok ∷ [])
    × (seen_on 9 2 1 ("23991220" ∷ []) ≡ ok ∷ [])  -- not margined
    -- Letters of the kinds; classes of an O row
    × (map (λ text. kind_in (ascii text)) ("G" ∷ "C" ∷ "I" ∷ "F" ∷ []) ≡ some government ∷ some corporate ∷ some inflation ∷ some floating ∷ [])
    × (read_priority (get_or (lines sheet) 5 []) ≡ some (record { first = 6; second = 7; factor = 5_000 }))
    -- Digits, letters; a number of 19 digits, and of 20
    × (map is_digit (ascii "/09:") ≡ false ∷ true ∷ true ∷ false ∷ []) × (map is_letter (ascii "@AZ[") ≡ false ∷ true ∷ true ∷ false ∷ [])
    × (map (λ text. given (number_in (ascii text))) ("9999999999999999999" ∷ "10000000000000000000" ∷ []) ≡ true ∷ false ∷ [])
    -- Days: 2000 to 2399; month and day from 1; the last of each month, and a day more; leap years; days from 20000101
    × (map is_day (19_991_231 ∷ 20_000_101 ∷ 23_991_231 ∷ 24_000_101 ∷ []) ≡ false ∷ true ∷ true ∷ false ∷ [])
    × (map is_day (20_190_001 ∷ 20_191_301 ∷ 20_190_100 ∷ []) ≡ false ∷ false ∷ false ∷ [])
    × (map (λ last. is_day (20_190_000 + last)) (131 ∷ 228 ∷ 331 ∷ 430 ∷ 531 ∷ 630 ∷ 731 ∷ 831 ∷ 930 ∷ 1031 ∷ 1130 ∷ 1231 ∷ []) ≡ replicate 12 true)
    × (map (λ last. is_day (20_190_001 + last)) (131 ∷ 228 ∷ 331 ∷ 430 ∷ 531 ∷ 630 ∷ 731 ∷ 831 ∷ 930 ∷ 1031 ∷ 1130 ∷ 1231 ∷ []) ≡ replicate 12 false)
    × (map is_day (20_020_229 ∷ 20_040_229 ∷ 20_080_229 ∷ 22_000_229 ∷ 23_000_229 ∷ []) ≡ false ∷ true ∷ true ∷ false ∷ false ∷ [])
    × (map day (20_000_101 ∷ 20_000_301 ∷ 20_010_101 ∷ 20_190_301 ∷ 23_991_231 ∷ []) ≡ 0 ∷ 60 ∷ 366 ∷ 6_999 ∷ 146_096 ∷ [])
    -- First working day after a Thursday, a Friday, a Saturday, a Sunday
    × (map (λ date. working_after (day date)) (20_190_613 ∷ 20_190_614 ∷ 20_190_615 ∷ 20_190_616 ∷ []) ≡ map day (20_190_614 ∷ 20_190_617 ∷ 20_190_617 ∷ 20_190_617 ∷ []))
    -- Calculated on a Friday, the repo runs to the Monday, and cash that settles that day is out
    × (marks 2 1 "20190614" ≡ pos 1_057_730 ∷ [])
    -- Sides, of the repo and of cash; a coupon on cash, to its settlement; a period of 366 days and payments a year, on the repo
    × (marks 9 2 "P" ≡ neg_ℤ (pos 1_028_170) ∷ pos 100_000 ∷ []) × (marks 10 2 "P" ≡ pos 1_028_170 ∷ neg_ℤ (pos 100_000) ∷ [])
    × (marks 8 6 "365000" ≡ pos 1_028_170 ∷ neg_ℤ (pos 884_000) ∷ [])
    × (marks 7 9 "20191026" ≡ pos 1_024_280 ∷ pos 100_000 ∷ [])
    × (marks 7 7 "2" ≡ pos 316_190 ∷ pos 100_000 ∷ []) × (marks 7 7 "4" ≡ neg_ℤ (pos 39_810) ∷ pos 100_000 ∷ [])
    -- Selection: cash settles on the calculation date, and a day after; the repo begins so; it ends so
    × (marks 10 6 "20190612" ≡ pos 1_028_170 ∷ []) × (marks 10 6 "20190613" ≡ pos 1_028_170 ∷ pos 100_000 ∷ [])
    × (marks 9 6 "20190612" ≡ pos 1_017_170 ∷ pos 100_000 ∷ []) × (marks 9 6 "20190613" ≡ pos 100_000 ∷ [])
    × (marks 9 7 "20190612" ≡ pos 100_000 ∷ []) × (marks 9 7 "20190613" ≡ pos 1_028_170 ∷ pos 100_000 ∷ [])
    -- Long and short of a class are sums, of the nets above zero and of those below
    × (map (λ side. position (summed side (map (λ net. record { code = []; class = 1; net = net }) (pos 5 ∷ pos 3 ∷ neg_ℤ (pos 2) ∷ []))) 1) (above_zero ∷ below_zero ∷ []) ≡ 8 ∷ 2 ∷ [])
    -- Half of a divisor: less, the tie, more. To the nearest: an odd divisor, which has no tie; a tie above an even number and
    -- one above an odd, with what lies about each, above zero and below
    × (map (λ over. by_half over 100) (0 ∷ 49 ∷ 50 ∷ 51 ∷ 99 ∷ []) ≡ less_than_half ∷ less_than_half ∷ tie ∷ more_than_half ∷ more_than_half ∷ [])
    × (map (λ n. nearest n 365) (182 ∷ 183 ∷ []) ≡ 0 ∷ 1 ∷ [])
    × (map (λ n. nearest n 100) (49 ∷ 50 ∷ 51 ∷ 99 ∷ 100 ∷ 149 ∷ 150 ∷ 151 ∷ []) ≡ 0 ∷ 1 ∷ 1 ∷ 1 ∷ 1 ∷ 1 ∷ 2 ∷ 2 ∷ [])
    × (map (λ n. rounded (neg_ℤ (pos n)) 100) (49 ∷ 50 ∷ 51 ∷ 99 ∷ 100 ∷ 149 ∷ 150 ∷ 151 ∷ [])
    ≡ map (λ n. neg_ℤ (pos n)) (0 ∷ 1 ∷ 1 ∷ 1 ∷ 1 ∷ 1 ∷ 2 ∷ 2 ∷ []))
    -- A row takes both pairs of two classes; the larger side; never below zero
    × (offset_row priority (record { long = 0 ∷ 100 ∷ 50 ∷ []; short = 0 ∷ 70 ∷ 30 ∷ [] }) ≡ record { long = 0 ∷ 70 ∷ 0 ∷ []; short = 0 ∷ 20 ∷ 0 ∷ [] })
    × (margin 5_000 3 5 ≡ 3) × (margin 5_000 5 3 ≡ 3) × (map (total 5) (neg_ℤ (pos 1) ∷ pos 499 ∷ pos 500 ∷ pos 501 ∷ []) ≡ 501 ∷ 1 ∷ 0 ∷ 0 ∷ [])
    -- A net of 0 is not listed, nor is a row that took nothing; the larger side, or both
    × (map is_net (pos 0 ∷ pos 1 ∷ neg_ℤ (pos 1) ∷ []) ≡ false ∷ true ∷ true ∷ [])
    × (map took_any (took 0 0 ∷ took 1 0 ∷ took 0 1 ∷ []) ≡ false ∷ true ∷ true ∷ [])
    × (setter_of 5 3 ≡ by_long) × (setter_of 3 5 ≡ by_short) × (setter_of 4 4 ≡ by_both) × (setter_of 0 0 ≡ by_both)
    -- Line 8 in Swiss francs: currencies apart and rising, in full a K line for every class, also where nothing is left
    × (full_answer 32_768 (changed 8 2 "CHF") ≡ accepted francs) × (answer 32_768 (changed 8 2 "CHF") ≡ accepted quiet_francs)
    -- Listed: in full each class; in a quiet report one with a long or a short, its margin 0 or not, and no other
    × (map (λ b. is_listed full b (class 1 government none)) (remaining 0 0 ∷ remaining 1 0 ∷ []) ≡ true ∷ true ∷ [])
    × (map (λ b. is_listed quiet b (class 1 government none)) (remaining 0 0 ∷ remaining 1 0 ∷ remaining 0 1 ∷ remaining 1 1 ∷ []) ≡ false ∷ true ∷ true ∷ true ∷ [])
    × (map (λ b. is_listed quiet b (record { class = 1; kind = government; border = none; deposit = 10_000 })) (remaining 0 0 ∷ remaining 1 0 ∷ remaining 0 1 ∷ []) ≡ false ∷ true ∷ true ∷ [])
    -- A K line of zeros, and lines that are none
    × (map (λ text. is_zero_line (pieces semicolon (ascii text))) ("K;EUR;10;0;0;0" ∷ "K;EUR;10;1;0;0" ∷ "K;EUR;10;0;1;0" ∷ "K;EUR;10;0;0;1" ∷ "K;EUR;10;10;0;0" ∷ []) ≡ true ∷ false ∷ false ∷ false ∷ false ∷ [])
    × (map (λ text. is_zero_line (pieces semicolon (ascii text))) ("Z;EUR;0;0;0" ∷ "M;10;EUR;0" ∷ "" ∷ []) ≡ false ∷ false ∷ false ∷ [])
    -- A buffer of 32,768 bytes or more, a sheet of 65,536 or fewer; 65,536 × refusal + line, or the length; what the buffer then holds
    × (answer 32_767 [] ≡ refused 1 0) × (answer 32_768 (replicate 65_537 0) ≡ refused 2 0) × (answer 32_768 (replicate 65_536 0) ≡ refused 3 1)
    × (number_of (refused 12 501) ≡ 786_933) × (buffer_after (refused 12 501) (ascii "wxyz") ≡ ascii "wxyz")
    × (number_of (accepted (ascii "AB")) ≡ 2) × (buffer_after (accepted (ascii "AB")) (ascii "wxyz") ≡ ascii "AByz")
    -- A question: a currency and a class of the sheet; a short buffer or a bad sheet is refused first
    × (map (λ currency. explained 32_768 sheet (ascii currency) 6) ("EU" ∷ "EURO" ∷ "USD" ∷ "" ∷ []) ≡ replicate 4 (refused 13 0))
    × (map (λ n. explained 32_768 sheet (ascii "EUR") n) (0 ∷ 5 ∷ 8 ∷ []) ≡ replicate 3 (refused 13 0))
    × (explained 32_767 sheet (ascii "USD") 0 ≡ refused 1 0) × (explained 32_768 (changed 2 1 "19991231") (ascii "USD") 0 ≡ refused 7 2)
