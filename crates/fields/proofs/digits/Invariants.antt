-- `fields::digits` meets its contract. The loop's invariant: the bytes that are left, read on from `n`, make the number, and whether
-- all are digits is whether those are.
use Prim.Native.Nat.{ℕ, ◌^◌, ◌<◌}
use mathlib.Core.Path.{◌≡◌}
use lib.ListN.{drop}
use Rattle.paper.specs.Units.{Text}
use Rattle.paper.specs.Lists.{every}
use Rattle.paper.specs.Text.{is_digit, decimal}
use Rattle.fields.proofs.digits.Given as goal

-- A field read up to a place, its digits so far as a number
pub record Read (t : Text) (n : ℕ) (i : ℕ) : Type 0 where
  pub small : n < 10 ^ i
  pub number : decimal 0 t ≡ decimal n (drop i t)
  pub tests : every is_digit t ≡ every is_digit (drop i t)

abbrev pub invariant-loop-b : goal.invariant-loop-b
invariant-loop-b l = Read l.text l.n l.b-index
