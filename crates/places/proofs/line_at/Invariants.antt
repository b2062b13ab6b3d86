-- `places::line_at` meets its contract. The invariant of both loops: the ends that were found, and those of the rest of the line
-- behind them, are the line's; `count` says how many were found, and `ends` has the first ten. The measure is the bytes left, up to
-- `end` and of the eight.
use Prim.Native.Nat.{ℕ, ◌+◌, ◌-◌, ◌≤◌, ◌<◌}
use mathlib.Core.List.{List, ◌++◌}
use mathlib.Core.Path.{◌≡◌}
use lib.ListN.{length, take, drop, replicate}
use Rattle.paper.specs.Units.{Text}
use Rattle.places.specs.Places.{Place, ends_from}
use Rattle.places.proofs.line_at.Given as goal

-- The first ten of a list of places, with 0 where it has fewer
abbrev pub ten : List Place → List Place
ten ps = take 10 (ps ++ replicate 10 0)

-- A line looked through up to a place
pub record Seen (s : Text) (at end : ℕ) (ends : List Place) (count : ℕ) (i : Place) : Type 0 where
  pub found : List Place
  pub behind : at ≤ i
  pub inside : i < end
  pub number : count ≡ length found
  pub few : at + count ≤ i
  pub first : ends ≡ ten found
  pub all : ends_from at (drop at s) ≡ found ++ ends_from i (drop i s)

abbrev pub invariant-loop-k-2 : goal.invariant-loop-k-2
invariant-loop-k-2 l = Seen l.s l.at l.end l.ends l.count l.i × (l.i ≡ l.initial.i + l.k) × (l.k ≤ 8)

abbrev pub decreases-loop-k-2 : goal.decreases-loop-k-2
decreases-loop-k-2 l = 8 - l.k

abbrev pub invariant-loop-k : goal.invariant-loop-k
invariant-loop-k l = Seen l.s l.at l.end l.ends l.count l.i

abbrev pub decreases-loop-k : goal.decreases-loop-k
decreases-loop-k l = l.end - l.i
