-- `priorities::known_classes` meets its contract. The loop's invariant: a class is known where it has one of the rows so far.
use mathlib.Core.List.{map}
use mathlib.Core.Path.{◌≡◌}
use lib.ListN.{take}
use Rattle.tables.specs.Back.{paper_class}
use Rattle.priorities.specs.Known.{known_of}
use Rattle.priorities.proofs.known_classes.Given as goal

abbrev pub invariant-loop-row : goal.invariant-loop-row
invariant-loop-row l = l.known ≡ known_of (map paper_class (take l.row-index l.classes.items))
