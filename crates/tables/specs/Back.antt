-- The paper's C rows, got back from their table.
use Rattle.std.specs.Prelude.{ℕ, zero, suc, Bool, true, false, List, map, ltb}
use Rattle.std.proofs.Math.Option.{Option, none, some}
use Rattle.paper.specs.Units.{Duration}
use Rattle.paper.specs.Lists.{between, every}
use Rattle.paper.specs.Rows as paper
use Rattle.paper.specs.Rows.{government, corporate, inflation, floating}
use Rattle.tables.specs.declared.ClassRow.{ClassRow}
use Rattle.arrayvec.specs.ArrayVec.{ArrayVec}

-- A kind by its number
abbrev pub kind_of : ℕ → paper.Kind
kind_of zero = government
kind_of (suc zero) = corporate
kind_of (suc (suc zero)) = inflation
kind_of (suc (suc (suc n))) = floating

-- A border or duration, ten-thousandths of a year, where the kind has one: kinds 2 and 3 have none
abbrev pub duration_of : ℕ → Duration → Option Duration
duration_of kind duration = elim (ltb kind 2) [ true ↦ some duration | false ↦ none ]

-- The C row that a row of the table stands for
abbrev pub paper_class : ClassRow → paper.ClassRow
paper_class c = record { class = c.class; kind = kind_of c.kind; border = duration_of c.kind c.border; deposit = c.deposit }

-- The C rows of a table
abbrev pub paper_classes : ArrayVec ClassRow → List paper.ClassRow
paper_classes t = map paper_class t.items

-- Whether each class of a table is 1 to 40
abbrev pub ranged : ArrayVec ClassRow → Bool
ranged t = every (λ c. between 1 40 c.class) t.items
