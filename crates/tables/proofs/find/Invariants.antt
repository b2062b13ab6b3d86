-- `tables::find` meets its contract. The loop's invariant: all codes before `low` are below the code, and none is from the last of
-- the next `size` on, of which there are a power of four. The measure is `size`.
use Prim.Native.Nat.{ℕ, ◌+◌, ◌≤◌}
use mathlib.Core.Path.{◌≡◌}
use lib.ListN.{length}
use Rattle.tables.proofs.Codes.{Below, Above}
use Rattle.tables.proofs.find.Given as goal

-- The sizes that the turns come by
pub data Sized : ℕ → Type 0 where
  all : Sized 256
  quarter : Sized 64
  sixteenth : Sized 16
  four : Sized 4
  one : Sized 1

abbrev pub invariant-loop-size : goal.invariant-loop-size
invariant-loop-size l =
    Sized l.size × (l.low + l.size ≤ 256) × (length l.codes-2 ≡ 256) × Below l.codes-2 l.code l.low × Above l.codes-2 l.code (l.low + l.size)

abbrev pub decreases-loop-size : goal.decreases-loop-size
decreases-loop-size l = l.size
