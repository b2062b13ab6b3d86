-- What a caller learns from an answer of `day_of`: what the paper's definition gave.
use Prim.Native.Nat.{ℕ}
use native.Mathlib.Omega.{arith}
use mathlib.Core.Option.{Option, none, some}
use mathlib.Core.Path.{◌≡◌, refl}
use Rattle.std.specs.Prelude.{None, Some}
use Rattle.answers.specs.Options.{answer}
use Rattle.paper.specs.Units.{Day}

pub is_day_lem : (o : Option Day) (d : Day) → answer o ≡ Some d → o ≡ some d
is_day_lem none d e = let z : ◌≡◌ {A = ℕ} 0 1 = cc in absurd (omega arith)
is_day_lem (some x) d e = cc

pub is_nothing : (o : Option Day) → answer o ≡ None → o ≡ none
is_nothing none e = refl
is_nothing (some x) e = let z : ◌≡◌ {A = ℕ} 0 1 = cc in absurd (omega arith)
