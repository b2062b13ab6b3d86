-- What stands in a field, as the code holds it: the paper's reading with the range that the rules ask for.
use Rattle.std.specs.Prelude.{ℕ, Bool, true, false, cond, [], ◌∷◌}
use Rattle.std.proofs.Math.Option.{Option, none, some}
use Rattle.paper.specs.Units.{Byte, Text, Duration, Rate}
use Rattle.paper.specs.Lists.{between, every, when, ◌>>=◌}
use Rattle.paper.specs.Text.{same, is_digit, decimal, number_in, signed_in}
use Rattle.paper.specs.Refusals.{is_rate}

-- Digits of any kind, leading zeros too, as the number that they mean
abbrev pub digits_in : Text → Option ℕ
digits_in t = when (every is_digit t) (decimal 0 t)

-- A number from a lowest to a highest
abbrev pub ranged_in : ℕ → ℕ → Text → Option ℕ
ranged_in lowest most t = number_in t >>= λ n. when (between lowest most n) n

-- A rate within its range: ten-thousandths of a percent
abbrev pub rate_in : Text → Option Rate
rate_in t = signed_in t >>= λ r. when (is_rate r) r

-- A border or duration, ten-thousandths of a year: 1..1,000,000 for a kind that has one; blank, and then 0, for one that has none
abbrev pub duration_in : Bool → Text → Option Duration
duration_in true t = ranged_in 1 1_000_000 t
duration_in false [] = some 0
duration_in false (b ∷ t) = none

-- Of two letters, the first as 0 and the second as 1
abbrev pub letter_in : Byte → Byte → Text → Option ℕ
letter_in zeroth first t = cond (same (zeroth ∷ []) t) (some 0) (cond (same (first ∷ []) t) (some 1) none)
