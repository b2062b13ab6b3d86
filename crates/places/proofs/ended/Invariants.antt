-- `places::ended` meets its contract. The loop's invariant: from `i` on no byte is an LF.
use Prim.Native.Nat.{ℕ, ◌≤◌, ◌<◌}
use mathlib.Core.Path.{◌≡◌}
use lib.ListN.{length, get_or}
use Rattle.paper.specs.Units.{Text}
use Rattle.paper.specs.Text.{LF}
use Rattle.places.proofs.ended.Given as goal

-- From a place on no byte is an LF
abbrev pub Clear : Text → ℕ → Type 0
Clear s i = (k : ℕ) → i ≤ k → k < length s → get_or s k 0 ≡ LF → ⊥

abbrev pub invariant-loop-i : goal.invariant-loop-i
invariant-loop-i l = Clear l.s l.i
