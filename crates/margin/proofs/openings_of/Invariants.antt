-- `margin::openings_of` meets its contract. The loop's invariant: the positions are those of the securities from `i` on.
use Prim.Native.Nat.{◌-◌}
use mathlib.Core.Path.{◌≡◌}
use lib.ListN.{length}
use Rattle.margin.specs.Openings.{from_rank, net_at, openings_of}
use Rattle.margin.proofs.openings_of.Given as goal

abbrev pub invariant-loop-i : goal.invariant-loop-i
invariant-loop-i l = l.openings ≡ openings_of (from_rank (net_at l.securities l.worths) (length l.securities - l.i) l.i)
