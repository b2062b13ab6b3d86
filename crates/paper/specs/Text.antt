-- Text (01, "The sheet"): lines, fields, and the forms of a field. Letters are held as their bytes.
use Rattle.std.specs.Prelude.{ℕ, zero, suc, ◌+◌, ◌-◌, ◌*◌, ◌/◌, ◌%◌, Bool, true, false, cond, ◌&&◌, ◌||◌, List, [], ◌∷◌, ◌++◌, map, reverse, eqb, leb, ltb, ℤ, pos, negsuc, length, take, drop}
use Prim.Native.String as S
use Prim.Native.String.{String}
use Prim.Native.Char.{code}
use Rattle.std.proofs.Math.Option
use Rattle.std.proofs.Math.Option.{Option, none, some}
use Rattle.paper.specs.Units.{Byte, Digit, Text, Fields, Date}
use Rattle.paper.specs.Lists.{between, joined_up, every, when, ◌>>=◌}

-- Letters written out, as bytes
abbrev pub ascii : String → Text
ascii S.[] = []
ascii (S.◌∷◌ c s) = code c ∷ ascii s

-- LF, which ends a line
abbrev pub LF : Byte
LF = 10

-- The mark that parts fields
abbrev pub semicolon : Byte
semicolon = 59

-- The sign before a number below zero
abbrev pub hyphen : Byte
hyphen = 45

-- A byte before the pieces of the text behind it: a mark opens a new piece, any other byte joins the first
abbrev pub pieced : Bool → Byte → List Text → List Text
pieced true b ps = [] ∷ ps
pieced false b [] = (b ∷ []) ∷ []
pieced false b (p ∷ ps) = (b ∷ p) ∷ ps

-- The pieces of a text between its marks: one more than it has marks
abbrev pub pieces : Byte → Text → List Text
pieces mark [] = [] ∷ []
pieces mark (b ∷ bs) = pieced (eqb b mark) b (pieces mark bs)

-- What stands behind the last LF: nothing, or a line without LF, which counts as a line with no fields
abbrev pub unended : Text → List Fields
unended [] = []
unended (b ∷ bs) = [] ∷ []

-- Each piece that an LF ends, as its fields
abbrev pub lines_of : List Text → List Fields
lines_of [] = []
lines_of (p ∷ []) = unended p
lines_of (p ∷ q ∷ ps) = pieces semicolon p ∷ lines_of (q ∷ ps)

-- The lines of a text, each as its fields
unfoldable pub lines : Text → List Fields
lines t = lines_of (pieces LF t)

-- Pieces put together again, with a mark between each two
abbrev pub parted : Byte → List Text → Text
parted mark [] = []
parted mark (p ∷ []) = p
parted mark (p ∷ q ∷ ps) = p ++ (mark ∷ parted mark (q ∷ ps))

-- A line as it is written: fields parted by `;`, and LF
abbrev pub line_of : Fields → Text
line_of fs = parted semicolon fs ++ (LF ∷ [])

-- Whether two texts are the same bytes
abbrev pub same : Text → Text → Bool
same [] [] = true
same [] (c ∷ t) = false
same (b ∷ s) [] = false
same (b ∷ s) (c ∷ t) = elim (eqb b c) [ true ↦ same s t | false ↦ false ]

-- Whether a text comes before another, by bytes: the first two that differ decide
abbrev pub before : Text → Text → Bool
before [] [] = false
before [] (c ∷ t) = true
before (b ∷ s) [] = false
before (b ∷ s) (c ∷ t) = elim (eqb b c) [ true ↦ before s t | false ↦ ltb b c ]

-- 0 to 9
abbrev pub is_digit : Byte → Bool
is_digit = between 48 57

-- A to Z
abbrev pub is_letter : Byte → Bool
is_letter = between 65 90

-- What decimal digits mean, behind a number read so far
abbrev pub decimal : ℕ → Text → ℕ
decimal n [] = n
decimal n (b ∷ bs) = decimal (10 * n + (b - 48)) bs

-- Decimal digits with no leading zero; `0` itself is allowed
abbrev pub is_number : Text → Bool
is_number [] = false
is_number (b ∷ []) = is_digit b
is_number (b ∷ c ∷ bs) = between 49 57 b && every is_digit (c ∷ bs)

-- A number: one of more than 19 digits is out of every range, and 19 fit 64 bits
unfoldable pub number_in : Text → Option ℕ
number_in t = when (leb (length t) 19 && is_number t) (decimal 0 t)

-- Below zero, by the size; `-0` is no number
abbrev pub below : ℕ → Option ℤ
below zero = none
below (suc n) = some (negsuc n)

-- A number that may have `-` before it, as the rate
abbrev pub signed_in : Text → Option ℤ
signed_in [] = none
signed_in (b ∷ bs) = elim (eqb b hyphen) [ true ↦ number_in bs >>= below | false ↦ Option.map pos (number_in (b ∷ bs)) ]

-- A date's eight digits as one number; 0, which is no day, for anything else
unfoldable pub date_in : Text → Date
date_in t = cond (eqb (length t) 8 && every is_digit t) (decimal 0 t) 0

-- The form of a code (01): two letters, nine letters or digits, one digit
unfoldable pub has_code_form : Text → Bool
has_code_form t =
    eqb (length t) 12
    && every is_letter (take 2 t)
    && every (λ b. is_letter b || is_digit b) (take 9 (drop 2 t))
    && every is_digit (drop 11 t)

-- A byte of a code in digits (02, b): a digit is one, a letter is two, those of 10 for A to 35 for Z
abbrev pub in_digits : Byte → List Digit
in_digits b = cond (is_letter b) ((b - 55) / 10 ∷ (b - 55) % 10 ∷ []) ((b - 48) ∷ [])

-- What a digit counts when it is doubled: 14 counts by its digits, 1 + 4
abbrev pub doubled : Digit → ℕ
doubled d = 2 * d / 10 + 2 * d % 10

-- What digits count where every second is doubled, with the first or with the next to begin
abbrev pub counted : Bool → List Digit → ℕ
counted first [] = 0
counted true (d ∷ ds) = doubled d + counted false ds
counted false (d ∷ ds) = d + counted true ds

-- Whether a code's last digit checks it (02, b): its digits, counted from the right with the one before the last doubled
-- first, make a number that ends in 0
unfoldable pub has_check_digit : Text → Bool
has_check_digit t = eqb (counted false (reverse (joined_up (map in_digits t))) % 10) 0

-- A code (01; 02, b): the form of one, and a last digit that checks it
unfoldable pub is_code : Text → Bool
is_code t = has_code_form t && has_check_digit t

-- A currency: three letters
abbrev pub is_currency : Text → Bool
is_currency t = eqb (length t) 3 && every is_letter t

-- A field that may be blank
abbrev pub or_blank : {A : Type 0} → (Text → Option A) → Text → Option (Option A)
or_blank read [] = some none
or_blank read (b ∷ bs) = Option.map some (read (b ∷ bs))

-- A field that may be blank, as it is written
abbrev pub blank_or : {A : Type 0} → (A → Text) → Option A → Text
blank_or write none = []
blank_or write (some a) = write a

-- The digits of a number before a text; so many digits at most
abbrev pub digits_before : ℕ → ℕ → Text → Text
digits_before zero n t = t
digits_before (suc most) n t =
    elim (ltb n 10) [ true ↦ (48 + n) ∷ t | false ↦ digits_before most (n / 10) ((48 + n % 10) ∷ t) ]

-- A number as it is written
unfoldable pub digits : ℕ → Text
digits n = digits_before (suc n) n []

-- A signed number as it is written: with `-` before it where it is below zero
abbrev pub signed_digits : ℤ → Text
signed_digits (pos n) = digits n
signed_digits (negsuc n) = hyphen ∷ digits (suc n)
