-- `margin::margins_of` meets its contract. The loop's invariant: the margins from `i` on stand in their places, with their sum.
use mathlib.Core.List.{map}
use mathlib.Core.Path.{◌≡◌}
use lib.ListN.{drop}
use Rattle.paper.specs.Lists.{sum}
use Rattle.offsetting.specs.Books.{book_of}
use Rattle.margin.specs.Figures.{margin_in}
use Rattle.margin.proofs.Backwards.{filled_from}
use Rattle.margin.proofs.margins_of.Given as goal

abbrev pub invariant-loop-i : goal.invariant-loop-i
invariant-loop-i l =
    record {
      each : l.margins.each ≡ filled_from 40 0 (map (margin_in (book_of l.book)) l.classes) l.i;
      initial : l.margins.initial ≡ sum (map (margin_in (book_of l.book)) (drop l.i l.classes));
    }
