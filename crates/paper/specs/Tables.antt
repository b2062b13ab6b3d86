-- Acceptance seen from the other side: how tables are written as a sheet, and which tables the rules admit.
-- A sheet is accepted exactly when it is the writing of admitted tables (Demands, 2).
use Rattle.std.specs.Prelude.{Bool, true, ◌&&◌, List, [], ◌∷◌, ◌++◌, map, T}
use Rattle.paper.specs.Units.{Text, Fields}
use Rattle.paper.specs.Days.{day}
use Rattle.paper.specs.Text.{ascii, line_of}
use Rattle.paper.specs.Lists.{joined_up}
use Rattle.paper.specs.Rows.{Tables, write_date, write_class, write_priority, write_security, write_trade}
use Rattle.paper.specs.Refusals.{Rule, RowKind, rules_of, date_kind, class_kind, priority_kind, security_kind, trade_kind, period_of}

-- The rows of tables in the order of a sheet, each as its fields
abbrev pub rows_of : Tables → List Fields
rows_of t =
    write_date t.date
    ∷ (map write_class t.classes
    ++ (map write_priority t.priorities ++ (map write_security t.securities ++ map write_trade t.trades)))

-- Tables written as a sheet
unfoldable pub sheet_of : Tables → Text
sheet_of t = ascii "BRM;1\n" ++ joined_up (map line_of (rows_of t))

-- Whether every rule holds
abbrev pub hold : List Rule → Bool
hold [] = true
hold (rule ∷ rules) = rule.1 && hold rules

-- Whether the rules hold for each row of a table, with the rows above it, the nearest first
abbrev pub hold_down : {R : Type 0} → RowKind R → List R → List R → Bool
hold_down kind above [] = true
hold_down kind above (r ∷ rs) = hold (rules_of kind above r) && hold_down kind (r ∷ above) rs

-- The rules that admit tables: those of every row, from 6 to 12
abbrev pub Admitted : Tables → Type 0
Admitted t =
    T (hold (rules_of date_kind [] t.date))
    × T (hold_down class_kind [] t.classes)
    × T (hold_down (priority_kind t.classes) [] t.priorities)
    × T (hold_down (security_kind t.classes) [] t.securities)
    × T (hold_down (trade_kind (day t.date) (period_of t.securities)) [] t.trades)
