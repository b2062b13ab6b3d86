-- The start of a sheet: its header, and its D row.
use Prim.Native.Nat.{ℕ, ◌≤◌, ◌<◌}
use native.Mathlib.Omega.{arith}
use mathlib.Core.Bool.{Bool, true, false}
use mathlib.Core.List.{List, [], tail}
use mathlib.Core.Path.{◌≡◌, refl, sym, ap, ◌∙◌, subst}
use lib.ListN.{take, drop}
use Rattle.paper.specs.Units.{Text, Fields, Number, Date, Day}
use Rattle.paper.specs.Days.{day}
use Rattle.paper.specs.Text.{ascii, lines, same}
use Rattle.paper.specs.Rows.{Tables}
use Rattle.paper.specs.Refusals.{Outcome, refused, accepted, ◌>>=◌, date_kind}
use Rattle.paper.specs.Sheet.{Rest, header, row, date_row, read_tables, read_sheet}
use Rattle.paper.proofs.Days.{day_low}
use Rattle.paper.proofs.Views.{header_written}
use Rattle.places.specs.Places.{Place, ended_length}
use Rattle.places.proofs.Places.{ended_append}
use Rattle.sections.specs.Sections.{fields_at}
use Rattle.answers.specs.Refusals.{refusal}
use Rattle.answers.specs.declared.Refusal.{Refusal}
use Rattle.std.proofs.Common.{Result, Ok, Err}
use Rattle.sections.proofs.Loops.{read_row, read_refused}
use Rattle.head.specs.Fields.{two_fields}
use Rattle.head.specs.Read.{header_read, date_read}
use Rattle.head.proofs.Row.{lines_there, within_there, formed, accepted_formed, refused_line}

-- What a header comes to, by its two rules
abbrev header_by : Bool → Bool → Result (Unit {0}) Refusal
header_by mark version = elim mark [ false ↦ Err (refusal 3) | true ↦ elim version [ false ↦ Err (refusal 4) | true ↦ Ok tt ] ]

abbrev read_by : Text → Bool → Bool → Outcome Rest
read_by sheet mark version =
    elim mark [
      | true ↦ elim version [ true ↦ accepted (2, lines (drop 6 sheet)) | false ↦ refused 4 1 ]
      | false ↦ refused 3 1
    ]

-- A header that is right is gone on from
pub header_right : (sheet : Text) → header_read sheet ≡ Ok tt → header sheet ≡ accepted (2, lines (drop 6 sheet))
header_right sheet e = go (same (ascii "BRM;") (take 4 sheet)) (same (ascii "1\n") (take 2 (drop 4 sheet))) e
  where
    go : (mark version : Bool) → header_by mark version ≡ Ok tt → read_by sheet mark version ≡ accepted (2, lines (drop 6 sheet))
    go true true e = refl
    go true false e = cc
    go false version e = cc

-- One that is not is refused
pub header_wrong : (sheet : Text) (f : Refusal) → header_read sheet ≡ Err f → (number : Number) × (header sheet ≡ refused number 1) × (refusal number ≡ f)
header_wrong sheet f e = go (same (ascii "BRM;") (take 4 sheet)) (same (ascii "1\n") (take 2 (drop 4 sheet))) e
  where
    go : (mark version : Bool) → header_by mark version ≡ Err f → (number : Number) × (read_by sheet mark version ≡ refused number 1) × (refusal number ≡ f)
    go true true e = cc
    go true false e = (4, refl, cc)
    go false version e = (3, refl, cc)

-- A header that is right ends in an LF
pub header_ended : (sheet : Text) → header_read sheet ≡ Ok tt → 6 ≤ ended_length sheet
header_ended sheet e =
    let written = header_written sheet (2, lines (drop 6 sheet)) (header_right sheet e) in
    omega (arith, ap ended_length written.1, ended_append (ascii "BRM;1") (drop 6 sheet))

-- ---- the D row

-- What follows the D row
abbrev behind_row : Text → Outcome Date → Outcome (Date × Rest)
behind_row sheet o = o >>= λ d. accepted (d, (3, tail (lines (drop 6 sheet))))

-- A D row that was read: the date of its day, and the next line
pub record DateThere (sheet : Text) (today : Day) (next : Place) : Type 0 where
  pub date : Date
  pub its_day : today ≡ day date
  pub below : today < 146_097
  pub within : next ≤ ended_length sheet
  pub read : date_row (2, lines (drop 6 sheet)) ≡ accepted (date, (3, lines (drop next sheet)))

pub date_read_lem : (sheet : Text) → 6 ≤ ended_length sheet → (today : Day) (next : Place) → date_read sheet ≡ Ok (today, next)
    → DateThere sheet today next
date_read_lem sheet h today next k =
    let (d, is, its, behind) = read_row day (two_fields sheet 6) (row date_kind [] 2 (fields_at sheet 6)) today next k in
    let l = formed sheet h (accepted_formed (fields_at sheet 6) d is) in
    subst (λ (p : Place). DateThere sheet today p) behind
    (record {
      date = d;
      its_day = sym its;
      below = subst (λ (x : Day). x < 146_097) its (day_low d);
      within = within_there sheet l h;
      read = ap (behind_row sheet) is ∙ ap (λ (fss : List Fields). accepted (d, (3, tail fss))) (lines_there sheet l);
    })

-- One that was refused
pub date_refused : (sheet : Text) (f : Refusal) → date_read sheet ≡ Err f
    → (number : Number) × (date_row (2, lines (drop 6 sheet)) ≡ refused number 2) × (refusal number ≡ f)
date_refused sheet f k =
    let (number, line, is, same) = read_refused day (two_fields sheet 6) (row date_kind [] 2 (fields_at sheet 6)) f k in
    (number, ap (behind_row sheet) (is ∙ ap (λ (n : ℕ). refused number n) (refused_line (fields_at sheet 6) number line is)), same)

-- What reading comes to, by the header and the D row
module _ (sheet : Text) where
  abbrev behind_header : Outcome Rest → Outcome Tables
  behind_header o = do
    rows ← o
    (date, rows) ← date_row rows
    read_tables date rows

  abbrev pub behind_date : Outcome (Date × Rest) → Outcome Tables
  behind_date o = do
    (date, rows) ← o
    read_tables date rows

  pub read_no_header : (number : ℕ) → header sheet ≡ refused number 1 → read_sheet sheet ≡ refused number 1
  unfolding read_sheet
  read_no_header number e = ap behind_header e

  pub read_behind : (rest : Rest) → header sheet ≡ accepted rest → (o : Outcome (Date × Rest)) → date_row rest ≡ o → read_sheet sheet ≡ behind_date o
  unfolding read_sheet
  read_behind rest e o k = ap behind_header e ∙ ap behind_date k
