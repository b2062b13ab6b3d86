-- The three demands on any kit, as types over the definitions. They are proved of `Answer.kit` in proofs/Demands.
use Rattle.std.specs.Prelude.{ℕ, zero, suc, ◌+◌, ◌*◌, ◌≤◌, ◌<◌, Bool, true, false, not, ◌&&◌, ◌||◌, List, [], ◌∷◌, ◌++◌, ◌↔◌, ◌≡◌, T, eqb, ltb, length, drop}
use Rattle.std.proofs.Math.Option.{Option, none, some}
use Rattle.paper.specs.Units.{Text, Fields, Room, Number, Line, Day, Class, Code}
use Rattle.paper.specs.Lists.{sum, every, only, first_that, given}
use Rattle.paper.specs.Text.{LF}
use Rattle.paper.specs.Rows.{ClassRow, PriorityRow, Tables}
use Rattle.paper.specs.Refusals.{Outcome, Rule, judged, is_factor, refused, accepted, RowKind, rules_of, Period, date_kind, class_kind, priority_kind, security_kind, trade_kind}
use Rattle.paper.specs.Sheet.{begins, row, header_rules, header}
use Rattle.paper.specs.Offsetting.{Book, position, taken, offset_row, offset_all}
use Rattle.paper.specs.Report.{Listing, report_of}
use Rattle.paper.specs.Answer.{Answer, room_rules, tables_of, Kit}
use Rattle.paper.specs.Tables.{sheet_of, Admitted}

-- A text of bytes: each is 0..255
abbrev pub IsBytes : Text → Type 0
IsBytes t = T (every (λ b. ltb b 256) t)

-- A kit refuses a sheet: 65,536 × number + line comes back, and every byte of the buffer is as it was
abbrev pub Refuses : Kit → Text → Text → Number → Line → Type 0
Refuses kit sheet buffer number line = kit sheet buffer ≡ (65_536 * number + line, buffer)

-- A kit reports on a sheet: the report's length in bytes comes back, the report stands at the buffer's start, and every
-- byte behind it is as it was
abbrev pub Reports : Kit → Text → Text → Text → Type 0
Reports kit sheet buffer report = kit sheet buffer ≡ (length report, report ++ drop (length report) buffer)

-- A kit gives an answer to a sheet and a buffer
abbrev pub Gives : Kit → Text → Text → Answer → Type 0
Gives kit sheet buffer (refused number line) = Refuses kit sheet buffer number line
Gives kit sheet buffer (accepted report) = Reports kit sheet buffer report

-- What an answer may be: a refusal from 1 to a highest number, at a line below 65,536, or a report of at most 32,768 bytes
-- The number returned then tells which of the two it is, and the refusal from its line
abbrev pub IsAnswer : Number → Answer → Type 0
IsAnswer highest (refused number line) = (1 ≤ number) × (number ≤ highest) × (line < 65_536)
IsAnswer highest (accepted report) = length report ≤ 32_768

-- Whether a number is that of a rule that fails
abbrev pub breaks : Number → List Rule → Bool
breaks number rules = given (first_that (λ rule. eqb rule.0 number && not rule.1) rules)

-- What rules make of what stands at a line: a refusal is for that line, by the number of a rule that fails, and no rule of
-- a smaller number fails; where it is accepted none fails. The order in which the rules are listed has no part in it
abbrev pub Smallest : {A : Type 0} → Line → List Rule → Outcome A → Type 0
Smallest at rules (refused number line) =
    (line ≡ at) × (breaks number rules ≡ true) × ((n : Number) → n < number → breaks n rules ≡ false)
Smallest at rules (accepted a) = (n : Number) → breaks n rules ≡ false

-- All rules of a row: 5 its letter and number of fields, 6 the form of its fields, then those on the row that is read
abbrev pub row_rules : {R : Type 0} → RowKind R → List R → Fields → List Rule
row_rules kind above fs =
    (5, begins kind.letter fs && eqb (length fs) kind.many)
    ∷ (6, given (kind.read fs))
    ∷ elim (kind.read fs) [ none ↦ [] | some r ↦ rules_of kind above r ]

-- A row is judged by the smallest number, whatever stands above it
abbrev pub RowSmallest : {R : Type 0} → RowKind R → Type 0
RowSmallest {R} kind =
    (above : List R) (at : Line) (fs : Fields) → Smallest at (row_rules kind above fs) (row kind above at fs)

-- Demand 1, of one line: on it the smallest number. Buffer and sheet, line 1, and each row kind
abbrev pub SmallestNumber : Type 0
SmallestNumber =
    ((room : Room) (sheet : Text) → Smallest 0 (room_rules room sheet) (judged 0 sheet (room_rules room sheet)))
    × ((sheet : Text) → Smallest 1 (header_rules sheet) (header sheet))
    × RowSmallest date_kind
    × RowSmallest class_kind
    × ((cs : List ClassRow) → RowSmallest (priority_kind cs))
    × ((cs : List ClassRow) → RowSmallest (security_kind cs))
    × ((today : Day) (periods : Code → Option Period) → RowSmallest (trade_kind today periods))

-- The first lines of a sheet, so many of them, each with its LF
abbrev pub first_lines : ℕ → Text → Text
first_lines zero sheet = []
first_lines (suc n) [] = []
first_lines (suc n) (b ∷ bs) = elim (eqb b LF) [ true ↦ b ∷ first_lines n bs | false ↦ b ∷ first_lines (suc n) bs ]

-- No refusal, or one for a line behind the first so many
abbrev pub Behind : {A : Type 0} → Line → Outcome A → Type 0
Behind n (refused number line) = n < line
Behind n (accepted a) = Unit

-- Demand 1, of all lines: the earliest. Cut a refused sheet anywhere above its refused line, and it is not refused for any of
-- the lines that are left; cut it right behind that line, and it is refused as before
abbrev pub EarliestLine : Type 0
EarliestLine =
    (room : Room) (sheet : Text) (number : Number) (line : Line) → tables_of room sheet ≡ refused number line
    → ((n : ℕ) → n < line → Behind n (tables_of room (first_lines n sheet)))
    × (1 ≤ line → tables_of room (first_lines line sheet) ≡ refused number line)

-- Demand 1. The kit answers every sheet of bytes and ends. A bad sheet is refused by number and line, and a refusal
-- leaves every byte of the lent report as it was. Callers check nothing first.
-- First: some answer, whatever the sheet and the buffer. Second: the refusal that document 01 gives. Then what that is: the
-- earliest line that breaks a rule, by the smallest number that it breaks.
-- Useless kits: one fixed report fails it on every bad sheet; one refusal for all sheets fails it on every bad sheet that
-- has another number or line. A kit that is right on bad sheets and refuses the good ones too, or gives a length there and
-- writes nothing, or goes by the first priority row only, passes here and fails demand 2.
abbrev pub Demand1 : Kit → Type 0
Demand1 kit =
    ((sheet buffer : Text) → IsBytes sheet → IsBytes buffer → (a : Answer) × IsAnswer 12 a × Gives kit sheet buffer a)
    × ((sheet buffer : Text) → IsBytes sheet → IsBytes buffer → (number : Number) → (line : Line)
    → tables_of (length buffer) sheet ≡ refused number line
    → Refuses kit sheet buffer number line)
    × SmallestNumber
    × EarliestLine

-- Demand 2. An accepted sheet gives exactly the figures of document 01, over whole numbers, and a sheet is accepted
-- exactly when document 01's rules admit it. The K lines in its report are those of the kit's listing.
-- Useless kits: one that refuses all fails it at the sheet of Example, which is the writing of admitted tables; one fixed
-- report at any sheet with another; a length and nothing written at any buffer that does not hold the report already; the
-- first priority row only at Example, where the first row takes nothing and the second takes 300,000; the kit of the other
-- listing at any sheet whose full report has a K line of zeros.
abbrev pub Demand2 : Listing → Kit → Type 0
Demand2 listing kit =
    (sheet buffer : Text) → IsBytes sheet → IsBytes buffer → 32_768 ≤ length buffer
    → (report : Text) → length report ≤ 32_768
    → Reports kit sheet buffer report
    ↔ ((t : Tables) × Admitted t × (sheet ≡ sheet_of t) × (report ≡ report_of listing t))

-- Whether a row names a class
abbrev pub names : Class → PriorityRow → Bool
names n o = eqb o.first n || eqb o.second n

-- The rows that name a class, in their order
abbrev pub naming : Class → List PriorityRow → List PriorityRow
naming n os = only (names n) os

-- Tables with another priority list
abbrev pub with_priorities : Tables → List PriorityRow → Tables
with_priorities t os =
    record { date = t.date; classes = t.classes; priorities = os; securities = t.securities; trades = t.trades }

-- Demand 3, of sheets. Reorder an accepted sheet's priority rows so that each class still meets the rows that name it,
-- the same rows in the same order: the new sheet is accepted, with the same report byte for byte.
-- The sheet is the writing of its tables, and the new one that of the same tables with the rows in another order.
-- Useless kits: the first priority row only fails it, where two rows that name different classes are swapped. The other
-- three pass and fail demand 2; so this is stated over the same definitions and not alone.
abbrev pub Reordering : Kit → Type 0
Reordering kit =
    (sheet buffer : Text) → IsBytes sheet → IsBytes buffer → 32_768 ≤ length buffer
    → (report : Text) → length report ≤ 32_768 → Reports kit sheet buffer report
    → (t : Tables) × Admitted t × (sheet ≡ sheet_of t)
    × ((os : List PriorityRow) → ((n : Class) → naming n t.priorities ≡ naming n os)
    → Reports kit (sheet_of (with_priorities t os)) buffer report)

-- Demand 3, of one row and any positions. Each row takes as much off the longs as off the shorts (the sums before and
-- after, crosswise), no position grows or falls below zero (no more is taken than is there).
-- It speaks of the definitions, to which demand 2 ties the kit. It shuts out a row that takes off one side only.
abbrev pub RowTakes : Type 0
RowTakes =
    (o : PriorityRow) → T (is_factor o.factor) → (b : Book)
    → (sum b.long + sum (offset_row o b).short ≡ sum b.short + sum (offset_row o b).long)
    × ((n : Class) → position (offset_row o b).long n ≤ position b.long n)
    × ((n : Class) → position (offset_row o b).short n ≤ position b.short n)
    × ((n m : Class) → taken o.factor n m b ≤ position b.long n)
    × ((n m : Class) → taken o.factor n m b ≤ position b.short m)

-- Demand 3, of all rows. A class that no row names keeps both its positions.
-- It fails a definition that offsets by the place of a class and not by its number.
abbrev pub UnnamedKeeps : Type 0
UnnamedKeeps =
    (os : List PriorityRow) (b : Book) (n : Class) → naming n os ≡ []
    → (position (offset_all os b).long n ≡ position b.long n)
    × (position (offset_all os b).short n ≡ position b.short n)

-- Demand 3, whole
abbrev pub Demand3 : Kit → Type 0
Demand3 kit = Reordering kit × RowTakes × UnnamedKeeps
