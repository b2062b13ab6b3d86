-- Codes and currencies as the code reads them: their numbers, and what the bytes of a code count.
use Rattle.std.specs.Prelude.{ℕ, zero, suc, ◌+◌, ◌*◌, true, false, cond, ◌&&◌, ◌||◌, List, [], ◌∷◌, reverse, take, drop}
use Rattle.std.proofs.Math.Option.{Option}
use Rattle.paper.specs.Units.{Byte, Text}
use Rattle.paper.specs.Lists.{every, when}
use Rattle.paper.specs.Text.{is_digit, is_letter, in_digits, counted, has_check_digit, is_code, is_currency}
use Rattle.tables.specs.Numbers.{code_number, currency_number}

-- What a byte of a code counts, in two numbers, the second times 256: where the last of its digits counts once, and where it is
-- doubled. For a byte that no code has, the highest number of 16 bits, which no byte of a code counts
abbrev pub byte_counts : Byte → ℕ
byte_counts b =
    cond (is_letter b || is_digit b) (counted false (reverse (in_digits b)) + 256 * counted true (reverse (in_digits b))) 65535

-- The same of so many bytes from a byte on
abbrev pub byte_counts_from : ℕ → Byte → List ℕ
byte_counts_from zero b = []
byte_counts_from (suc k) b = byte_counts b ∷ byte_counts_from k (suc b)

-- And from `0` to `Z`
unfoldable pub counts_table : List ℕ
counts_table = byte_counts_from 43 48

-- Twelve bytes, of which eleven are letters or digits, the last is a digit, and checks them, as their number
abbrev pub checked_in : Text → Option ℕ
checked_in t =
    when (every (λ b. is_letter b || is_digit b) (take 11 t) && every is_digit (drop 11 t) && has_check_digit t) (code_number t)

-- A text that is a code as its number
abbrev pub code_in : Text → Option ℕ
code_in t = when (is_code t) (code_number t)

-- A text that is a currency as its number
abbrev pub currency_in : Text → Option ℕ
currency_in t = when (is_currency t) (currency_number t)
