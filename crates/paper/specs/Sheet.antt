-- A sheet, read (01, "The sheet", and the order of refusals): header, D row, then the sections C, O, S and T; and with
-- it the refusals 3 to 5. The earliest line that fails is refused, by its smallest number.
use Rattle.std.specs.Prelude.{suc, Bool, true, false, ◌&&◌, eqb, length, get_or, take, drop}
use mathlib.Core.List.{List, [], ◌∷◌, reverse, tail}
use Rattle.std.proofs.Math.Option.{none, some}
use Rattle.paper.specs.Units.{Text, Fields, Line, Date}
use Rattle.paper.specs.Days.{day}
use Rattle.paper.specs.Text.{ascii, lines, same}
use Rattle.paper.specs.Rows.{Tables, field}
use Rattle.paper.specs.Refusals.{Outcome, refused, accepted, ◌>>=◌, Rule, judged, RowKind, rules_of, date_kind, class_kind, priority_kind, security_kind, trade_kind, period_of}

-- The lines that are not read yet, with the number of the first
abbrev pub Rest : Type 0
Rest = Line × List Fields

-- Header: 3 the sheet begins `BRM;`; 4 line 1 goes on with `1` and LF
abbrev pub header_rules : Text → List Rule
header_rules sheet = (3, same (ascii "BRM;") (take 4 sheet)) ∷ (4, same (ascii "1\n") (take 2 (drop 4 sheet))) ∷ []

-- The header read: the lines behind it
abbrev pub header : Text → Outcome Rest
header sheet = judged 1 (2, lines (drop 6 sheet)) (header_rules sheet)

-- Whether a line has this letter
abbrev pub begins : Text → Fields → Bool
begins letter fs = same letter (field 0 fs)

-- A row with those above it: 5 it has its letter and so many fields with it; 6 each field has its form; then the rules
abbrev pub row : {R : Type 0} → RowKind R → List R → Line → Fields → Outcome R
row kind above at fs =
    elim (begins kind.letter fs && eqb (length fs) kind.many) [
      | false ↦ refused 5 at
      | true ↦ elim (kind.read fs) [ none ↦ refused 6 at | some r ↦ judged at r (rules_of kind above r) ]
    ]

-- Rows from a line on, each judged by those above it, down to the first line with another letter
unfoldable pub rows_from : {R : Type 0} → RowKind R → List R → Line → List Fields → Outcome (List R × Rest)
rows_from kind above at [] = accepted (reverse above, (at, []))
rows_from kind above at (fs ∷ more) =
    elim (begins kind.letter fs) [
      | false ↦ accepted (reverse above, (at, fs ∷ more))
      | true ↦ elim (row kind above at fs) [
        | refused number line ↦ refused number line
        | accepted r ↦ rows_from kind (r ∷ above) (suc at) more
      ]
    ]

-- A section: the rows of a kind, from the first line that is not read yet
abbrev pub section : {R : Type 0} → RowKind R → Rest → Outcome (List R × Rest)
section kind rest = rows_from kind [] rest.0 rest.1

-- The D row is the first line not read yet; where there is none it is missing, and refused as a line with no fields
abbrev pub date_row : Rest → Outcome (Date × Rest)
date_row rest =
    row date_kind [] rest.0 (get_or rest.1 0 [])
    >>= λ date. accepted (date, (suc rest.0, tail rest.1))

-- 5 no line remains: one would have an unknown letter, be out of its section or lack its LF
abbrev pub end_rules : Rest → List Rule
end_rules rest = (5, eqb (length rest.1) 0) ∷ []

-- The end of the sheet, behind what was read
abbrev pub ended : {A : Type 0} → A → Rest → Outcome A
ended a rest = judged rest.0 a (end_rules rest)

-- The tables behind the D row: the sections in their order, and no line behind them
abbrev pub read_tables : Date → Rest → Outcome Tables
read_tables date rows = do
  (cs, rows) ← section class_kind rows
  (os, rows) ← section (priority_kind cs) rows
  (ss, rows) ← section (security_kind cs) rows
  (ts, rows) ← section (trade_kind (day date) (period_of ss)) rows
  ended (record { date = date; classes = cs; priorities = os; securities = ss; trades = ts }) rows

-- The tables of a sheet, or its refusal
unfoldable pub read_sheet : Text → Outcome Tables
read_sheet sheet = do
  rows ← header sheet
  (date, rows) ← date_row rows
  read_tables date rows
