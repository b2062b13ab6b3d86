-- `lines::put_code` meets its contract. The loop's invariant: the bytes left and those written behind them are the text.
use Prim.Native.Nat.{ℕ, ◌+◌, ◌/◌, ◌≤◌}
use mathlib.Core.List.{[]}
use mathlib.Core.Path.{◌≡◌}
use lib.ListN.{length}
use Rattle.paper.specs.Units.{Text}
use Rattle.lines.specs.Written.{Place, written, spelled}
use Rattle.lines.proofs.put_code.Given as goal

-- Of a text that goes to a place of a buffer, the end is written, and a number spells the bytes before it, so many
pub record Ended (text : Text) (at : Place) (b : Text) (many n : ℕ) (after : Text) : Type 0 where
  pub end : Text
  pub whole : spelled many n end ≡ text
  pub fits : at + many + length end ≤ length b
  pub there : after ≡ written end (at + many) b

abbrev pub invariant-loop-i : goal.invariant-loop-i
invariant-loop-i l = Ended (spelled 11 (l.code / 10) []) l.at l.initial.report l.i l.n l.report
