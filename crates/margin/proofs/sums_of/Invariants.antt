-- `margin::sums_of` meets its contract. The loop's invariant: the marks from `i` on stand in their places, and the sums are those
-- of the trades from `i` on.
use mathlib.Core.List.{map}
use mathlib.Core.Path.{◌≡◌}
use lib.IntN.{pos}
use lib.ListN.{drop}
use Rattle.margin.specs.Sums.{value_in, sums_of}
use Rattle.margin.proofs.Backwards.{filled_from}
use Rattle.margin.proofs.sums_of.Given as goal

abbrev pub invariant-loop-i : goal.invariant-loop-i
invariant-loop-i l =
    record {
      marks : l.sums.marks ≡ filled_from 500 (pos 0) (map (λ t. (value_in l.securities.items t).mark) l.trades) l.i;
      worths : l.sums.worths ≡ (sums_of l.securities.items (drop l.i l.trades)).worths;
      totals : l.sums.totals ≡ (sums_of l.securities.items (drop l.i l.trades)).totals;
    }
