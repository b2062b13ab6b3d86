-- `tables::inserted` meets its contract. The loop's invariant: putting what is moved in at `i` gives what is to be given.
use mathlib.Core.Path.{◌≡◌}
use lib.ListN.{length}
use Rattle.std.specs.List.{insert}
use Rattle.tables.proofs.inserted.Given as goal

abbrev pub invariant-loop-i : goal.invariant-loop-i
invariant-loop-i l =
    (length l.numbers.items ≡ length l.fn.currencies.items) × (insert l.numbers.items l.i l.moved ≡ insert l.fn.currencies.items l.rank l.own)
