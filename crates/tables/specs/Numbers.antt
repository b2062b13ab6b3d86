-- Letters, codes and currencies by their numbers in the code.
use Rattle.std.specs.Prelude.{ℕ, suc, ◌+◌, ◌-◌, ◌*◌, true, false, List, [], ◌∷◌, eqb}
use Rattle.paper.specs.Units.{Text, Code, Currency}
use Rattle.paper.specs.Rows.{Kind, government, corporate, inflation, floating, Trade, repo, cash, Side, seller, purchaser}

-- A kind by its number
abbrev pub kind_number : Kind → ℕ
kind_number government = 0
kind_number corporate = 1
kind_number inflation = 2
kind_number floating = 3

-- A kind of trade by its number
abbrev pub trade_number : Trade → ℕ
trade_number repo = 0
trade_number cash = 1

-- A side by its number
abbrev pub side_number : Side → ℕ
side_number seller = 0
side_number purchaser = 1

-- Bytes as one number that orders as they do, read on from a number: each byte from `0` on in base 43, which reaches to `Z`, and
-- the last in a base of its own
abbrev pub bytes_from : ℕ → ℕ → Text → ℕ
bytes_from base n [] = n
bytes_from base n (b ∷ []) = base * n + (b - 48)
bytes_from base n (b ∷ c ∷ t) = bytes_from base (43 * n + (b - 48)) (c ∷ t)

-- A code: its last byte is a digit
abbrev pub code_number : Code → ℕ
code_number = bytes_from 10 0

-- A currency
abbrev pub currency_number : Currency → ℕ
currency_number = bytes_from 43 0

-- Above every code's number
abbrev pub highest : ℕ
highest = 18446744073709551615

-- The place of a number among numbers; as many as there are where it is not there
abbrev pub number_place : List ℕ → ℕ → ℕ
number_place [] n = 0
number_place (m ∷ ms) n = elim (eqb m n) [ true ↦ 0 | false ↦ suc (number_place ms n) ]
