-- `head::field_length` meets its contract. The loop's invariant: what is passed over so far is no mark.
use Prim.Native.Nat.{◌+◌}
use mathlib.Core.Path.{◌≡◌}
use lib.ListN.{drop}
use Rattle.head.specs.Fields.{field_length}
use Rattle.head.proofs.field_length.Given as goal

abbrev pub invariant-loop-i : goal.invariant-loop-i
invariant-loop-i l = field_length l.text ≡ l.i + field_length (drop l.i l.text)
