-- The starred figures of document 01, 1 to 9, in one table that the checker computes.
use Rattle.std.specs.Prelude.{ℕ, true, false, List, [], ◌∷◌, ◌≡◌, ℤ, pos, neg_ℤ, set}
use Rattle.std.proofs.Math.Option.{some}
use Rattle.paper.specs.Units.{Class, Factor, Duration}
use Rattle.paper.specs.Days.{day, is_day, working_after}
use Rattle.paper.specs.Rows.{government, ClassRow, PriorityRow}
use Rattle.paper.specs.Valuation.{accrued, revaluated, interest, net_of, class_of}
use Rattle.paper.specs.Offsetting.{Book, flat, offset_row, offset_all}

-- Below zero
abbrev minus : ℕ → ℤ
minus n = neg_ℤ (pos n)

-- A government class with its border, ten-thousandths of a year
abbrev up_to : Class → Duration → ClassRow
up_to n border = record { class = n; kind = government; border = some border; deposit = 0 }

-- Figure 6: borders 32,500 and 47,500
abbrev borders : List ClassRow
borders = up_to 6 32_500 ∷ up_to 7 47_500 ∷ []

-- A priority row, its factor in ten-thousandths
abbrev priority : Class → Class → Factor → PriorityRow
priority n m factor = record { first = n; second = m; factor = factor }

-- Figure 7: class 6 alone, long and short in whole units
abbrev one : ℕ → ℕ → Book
one long short = record { long = set (flat 40) 6 long; short = set (flat 40) 6 short }

-- Figure 8: class 6 long, class 6 short and class 7 short in whole units, all else 0
abbrev two : ℕ → ℕ → ℕ → Book
two long6 short6 short7 =
    record { long = set (flat 40) 6 long6; short = set (set (flat 40) 6 short6) 7 short7 }

-- The table; a net is that of two trades
abbrev pub Figures : Type 0
Figures =
    (accrued 225_000 1 231 365 ≡ 142_397)  -- 1
    × (revaluated 1_000_000 11_101_597 ≡ 111_015_970)  -- 2
    × (interest 10 110_000_000 (minus 4_000) ≡ minus 122)  -- 3
    × (interest 1 18_000_000 (pos 1_000) ≡ pos 1) × (interest 1 18_000_000 (minus 1_000) ≡ minus 1)  -- 4
    × (net_of (minus 25 ∷ minus 25 ∷ []) ≡ minus 1) × (net_of (minus 25 ∷ minus 24 ∷ []) ≡ pos 0)  -- 5
    × (class_of borders government (some 32_500) ≡ some 6) × (class_of borders government (some 32_501) ≡ some 7)  -- 6
    × (offset_row (priority 6 6 5_000) (one 5 3) ≡ one 3 1)  -- 7
    × (offset_all (priority 6 6 10_000 ∷ priority 6 7 10_000 ∷ []) (two 100 100 100) ≡ two 0 0 100)  -- 8
    × (offset_all (priority 6 7 10_000 ∷ priority 6 6 10_000 ∷ []) (two 100 100 100) ≡ two 0 100 0)
    × (working_after (day 20_190_614) ≡ day 20_190_617)  -- 9
    × (is_day 20_000_229 ≡ true) × (is_day 21_000_229 ≡ false)
