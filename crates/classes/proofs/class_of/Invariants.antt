-- `classes::class_of` meets its contract. The loop's invariant: the class is the one found among the rows that are left.
use mathlib.Core.Path.{◌≡◌}
use lib.ListN.{drop}
use Rattle.classes.specs.Search.{class_in}
use Rattle.classes.proofs.class_of.Given as goal

abbrev pub invariant-loop-row : goal.invariant-loop-row
invariant-loop-row l = class_in l.rows l.kind l.duration ≡ class_in (drop l.row-index l.rows) l.kind l.duration
