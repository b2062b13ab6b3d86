-- Signed numbers, of any unit.
use Rattle.std.specs.Prelude.{ℕ, suc, List, [], ◌∷◌, ℤ, pos, negsuc, ◌+ℤ◌}

-- A signed number where it is above zero, and else 0
abbrev pub above_zero : ℤ → ℕ
above_zero (pos n) = n
above_zero (negsuc n) = 0

-- A signed number taken positive where it is below zero, and else 0
abbrev pub below_zero : ℤ → ℕ
below_zero (pos n) = 0
below_zero (negsuc n) = suc n

-- A sum of signed numbers, of one unit
abbrev pub signed_sum : List ℤ → ℤ
signed_sum [] = pos 0
signed_sum (z ∷ zs) = z +ℤ signed_sum zs
