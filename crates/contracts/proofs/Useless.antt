-- The useless kits that document 01 names are shut out by demand 2, full and quiet: one that refuses every sheet, one with one
-- fixed report, one that gives a length and writes nothing, and one that goes by the first priority row only. And so is a kit that
-- gives the report of the other listing.
use Prim.Native.Nat.{ℕ, zero, suc, ◌≤◌}
use native.Mathlib.Nat.{le_of_eq}
use native.Mathlib.Omega.{arith}
use mathlib.Core.Bool.{true, false, not}
use mathlib.Core.List.{[], ◌∷◌, ◌++◌, map}
use mathlib.Core.Path.{◌≡◌, refl, sym, ap, ◌∙◌}
use lib.ListN.{length, get_or, take, drop, replicate, length-replicate}
use Rattle.paper.specs.Units.{Text, Room}
use Rattle.paper.specs.Lists.{joined_up}
use Rattle.paper.specs.Rounding.{nearest, rounded}
use Rattle.paper.specs.Days.{is_open, working_after}
use Rattle.paper.specs.Text.{ascii, lines, number_in, date_in, has_code_form, has_check_digit, is_code, digits}
use Rattle.paper.specs.Rows.{Tables}
use Rattle.paper.specs.Currencies.{currencies}
use Rattle.paper.specs.Valuation.{valued_from, valued_in}
use Rattle.paper.specs.Offsetting.{summed, offset_row, offset_all}
use Rattle.paper.specs.Refusals.{◌>>=◌}
use Rattle.paper.specs.Sheet.{rows_from, read_sheet}
use Rattle.paper.specs.Report.{Listing, trade_line, class_line, currency_lines, report_of}
use Rattle.paper.specs.Answer.{Answer, tables_of, answer_by, accepted, number_of, handed_back, Kit, kit}
use Rattle.paper.specs.Demands.{IsBytes, Reports, Demand2, with_priorities}
use Rattle.paper.specs.Example as example
use Rattle.paper.proofs.Demands.{gives_answer, demand_2}
use Rattle.paper.proofs.Example.{printed}

-- A buffer of 32,768 bytes, all 0
abbrev buffer : Text
buffer = replicate 32_768 0

zeros_bytes : (n : ℕ) → IsBytes (replicate n 0)
zeros_bytes zero = tt
zeros_bytes (suc n) = zeros_bytes n

long : length buffer ≡ 32_768
long = length-replicate {A = ℕ} 32_768 0

-- A sheet with no row behind its D row: its report is empty
abbrev bare : Text
bare = ascii "BRM;1\nD;20190612\n"

bare_printed : (l : Listing) → answer_by l 32_768 bare ≡ accepted []
unfolding lines number_in date_in rows_from read_sheet valued_from report_of
bare_printed true = refl
bare_printed false = refl

-- The kit gives a report into that buffer where the answer is one
prints : (l : Listing) (sheet report : Text) → answer_by l 32_768 sheet ≡ accepted report → Reports (kit l) sheet buffer report
prints l sheet report e = gives_answer l sheet buffer (accepted report) (ap (λ (n : ℕ). answer_by l n sheet) long ∙ e)

-- A kit that keeps demand 2 gives the report that document 01 gives
gives_report : (l : Listing) (k : Kit) → Demand2 l k → (sheet report : Text) → IsBytes sheet → length report ≤ 32_768
    → answer_by l 32_768 sheet ≡ accepted report → Reports k sheet buffer report
gives_report l k d sheet report bytes fits e =
    let room = le_of_eq (sym long) in
    (d sheet buffer bytes (zeros_bytes 32_768) room report fits).1
    ((demand_2 l sheet buffer bytes (zeros_bytes 32_768) room report fits).0 (prints l sheet report e))

-- ... on document 01's sheet
gives_example : (l : Listing) (k : Kit) → Demand2 l k → Reports k example.sheet buffer example.report
gives_example l k d = gives_report l k d example.sheet example.report tt (omega arith) (printed l)

-- One that refuses every sheet
pub refusing_shut_out : (l : Listing) → Demand2 l (λ sheet buffer. (65_536, buffer)) → ⊥
refusing_shut_out l d =
    let number : 65_536 ≡ length example.report = ap (λ (x : ℕ × Text). x.0) (gives_example l (λ sheet buffer. (65_536, buffer)) d) in
    omega (arith, number)

-- One with one fixed report
pub fixed_shut_out : (l : Listing) (fixed : Text) → Demand2 l (λ sheet buffer. (length fixed, fixed ++ drop (length fixed) buffer)) → ⊥
fixed_shut_out l fixed d =
    let k : Kit = λ sheet buffer. (length fixed, fixed ++ drop (length fixed) buffer) in
    let here : length fixed ≡ length example.report = ap (λ (x : ℕ × Text). x.0) (gives_example l k d) in
    let there : length fixed ≡ 0 = ap (λ (x : ℕ × Text). x.0) (gives_report l k d bare [] tt (omega arith) (bare_printed l)) in
    omega (arith, here, there)

-- One that gives a length and writes nothing
pub silent_shut_out : (l : Listing) → Demand2 l (λ sheet buffer. ((kit l sheet buffer).0, buffer)) → ⊥
silent_shut_out l d =
    let first : ◌≡◌ {A = ℕ} 0 77 = ap (λ (x : ℕ × Text). get_or x.1 0 0) (gives_example l (λ sheet buffer. ((kit l sheet buffer).0, buffer)) d) in
    omega (arith, first)

-- One that reduces by the first priority row and passes over the rest: its reports, with all else as it should be
abbrev first_row_report : Listing → Tables → Text
first_row_report l t =
    let vs = valued_in t in
    joined_up (map trade_line vs)
    ++ joined_up (map (currency_lines l (with_priorities t (take 1 t.priorities)) vs) (currencies t.securities))

abbrev first_row_answer : Listing → Room → Text → Answer
first_row_answer l room sheet = tables_of room sheet >>= λ t. accepted (first_row_report l t)

abbrev pub first_row_kit : Listing → Kit
first_row_kit l sheet buffer = handed_back (first_row_answer l (length buffer) sheet) buffer

-- On document 01's sheet its first row takes nothing, and the 300,000 of the second stay in both classes: 1,110,160 long in
-- class 6 and 600,000 short in class 7, and 355 and 490 ten-thousandths of these as margins
abbrev other_report : Text
other_report =
    joined_up
    (ascii "M;9;EUR;1028170\n"
    ∷ ascii "M;10;EUR;100000\n"
    ∷ ascii "K;EUR;6;1110160;0;39411\n"
    ∷ ascii "K;EUR;7;0;600000;29400\n"
    ∷ ascii "Z;EUR;1128170;68811;5752930\n"
    ∷ [])

first_row_printed : (l : Listing) → first_row_answer l 32_768 example.sheet ≡ accepted other_report
unfolding nearest rounded is_open working_after lines number_in date_in has_code_form has_check_digit is_code digits valued_from rows_from read_sheet summed offset_row offset_all class_line currency_lines
first_row_printed true = refl
first_row_printed false = refl

pub first_row_shut_out : (l : Listing) → Demand2 l (first_row_kit l) → ⊥
first_row_shut_out l d =
    let given : number_of (first_row_answer l (length buffer) example.sheet) ≡ length example.report =
    ap (λ (x : ℕ × Text). x.0) (gives_example l (first_row_kit l) d)
    in
    let printed : first_row_answer l (length buffer) example.sheet ≡ accepted other_report =
    ap (λ (n : ℕ). first_row_answer l n example.sheet) long ∙ first_row_printed l
    in
    omega (arith, sym (ap number_of printed) ∙ given)

-- A sheet with a class and a security, and no trade: its full report has a K line of zeros, its quiet one has not
abbrev idle : Text
idle = ascii "BRM;1\nD;20190612\nC;6;G;32500;355\nS;ZZ0000000016;EUR;G;32475;10000000;0;1;20190101;20200101\n"

abbrev idle_report : Listing → Text
idle_report true = ascii "K;EUR;6;0;0;0\nZ;EUR;0;0;0\n"
idle_report false = ascii "Z;EUR;0;0;0\n"

idle_printed : (l : Listing) → answer_by l 32_768 idle ≡ accepted (idle_report l)
unfolding nearest rounded is_open working_after lines number_in date_in has_code_form has_check_digit is_code digits valued_from rows_from read_sheet summed offset_row offset_all class_line currency_lines report_of
idle_printed true = refl
idle_printed false = refl

-- The two are short, and not equally long
idle_short : (l : Listing) → length (idle_report l) ≤ 32_768
idle_short true = omega arith
idle_short false = omega arith

idle_apart : (l : Listing) → length (idle_report (not l)) ≡ length (idle_report l) → ⊥
idle_apart true same = omega (arith, same)
idle_apart false same = omega (arith, same)

-- One that gives the report of the other listing
pub other_listing_shut_out : (l : Listing) → Demand2 l (kit (not l)) → ⊥
other_listing_shut_out l d =
    let given = gives_report l (kit (not l)) d idle (idle_report l) tt (idle_short l) (idle_printed l) in
    let own = prints (not l) idle (idle_report (not l)) (idle_printed (not l)) in
    idle_apart l (ap (λ (x : ℕ × Text). x.0) (sym own ∙ given))
