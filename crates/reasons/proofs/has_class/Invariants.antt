-- `reasons::has_class` meets its contract. The loop's invariant: some row has the class where one from the row of the turn on has it.
use mathlib.Core.List.{map}
use mathlib.Core.Path.{◌≡◌}
use lib.ListN.{drop}
use Rattle.paper.specs.Refusals.{has_class}
use Rattle.tables.specs.Back.{paper_class, paper_classes}
use Rattle.reasons.proofs.has_class.Given as goal

abbrev pub invariant-loop-row : goal.invariant-loop-row
invariant-loop-row l = has_class (map paper_class (drop l.row-index l.classes.items)) l.class ≡ has_class (paper_classes l.classes) l.class
