-- What is promised of a code's last digit (02, b): codes that it checks and codes that it refuses, and which slips of a clerk
-- it shows.
use Rattle.std.specs.Prelude.{◌-◌, ◌/◌, ◌%◌, Bool, true, false, cond, ◌||◌, List, [], ◌∷◌, ◌++◌, map, ◌≡◌, eqb, replicate}
use Prim.Native.String.{String}
use Rattle.paper.specs.Units.{Byte, Digit, Text}
use Rattle.paper.specs.Lists.{joined_up, only}
use Rattle.paper.specs.Text.{ascii, is_digit, is_letter, in_digits, doubled, counted, has_check_digit, is_code}

-- Whether two digits side by side count the same when they are swapped: the same digit twice, and 0 and 9
abbrev pub alike : Digit → Digit → Bool
alike d e = eqb (d % 9) (e % 9)

-- Whether the two digits of a letter are so
abbrev pub twin_letter : Byte → Bool
twin_letter b = alike ((b - 55) / 10) ((b - 55) % 10)

-- Whether two neighbours that are swapped count the same: two letters always, a letter and a digit by the letter's own digits
abbrev pub hidden : Byte → Byte → Bool
hidden b c =
    cond (is_letter b)
    (cond (is_letter c) true (twin_letter b))
    (cond (is_letter c) (twin_letter c) (alike (b - 48) (c - 48)))

-- What the check is worth, wherever in a text the slip is and whatever letters stand beside it
pub record Checked : Type 0 where
  -- A text with a wrong digit is no code
  pub refused : (t : Text) → has_check_digit t ≡ false → is_code t ≡ false
  -- One digit for another is always shown
  pub changed : (s t : Text) (b c : Byte) → is_digit b ≡ true → is_digit c ≡ true → (b ≡ c → ⊥)
      → has_check_digit (s ++ (b ∷ t)) ≡ true → has_check_digit (s ++ (c ∷ t)) ≡ false
  -- Two neighbours swapped are shown, but for those that count the same
  pub swapped : (s t : Text) (b c : Byte) → (is_letter b || is_digit b) ≡ true → (is_letter c || is_digit c) ≡ true
      → has_check_digit (s ++ (b ∷ c ∷ t)) ≡ true → has_check_digit (s ++ (c ∷ b ∷ t)) ≡ hidden b c

-- All digits, and all letters
abbrev ten_digits : Text
ten_digits = ascii "0123456789"

abbrev all_letters : Text
all_letters = ascii "ABCDEFGHIJKLMNOPQRSTUVWXYZ"

-- Which of some texts are codes
abbrev are_codes : List String → List Bool
are_codes texts = map (λ text. is_code (ascii text)) texts

-- The table
abbrev pub Codes : Type 0
Codes =
    -- In digits, letters as 10 to 35; a digit doubled; the whole, of which every second from the right is doubled
    (map in_digits (ascii "09AZ") ≡ (0 ∷ []) ∷ (9 ∷ []) ∷ (1 ∷ 0 ∷ []) ∷ (3 ∷ 5 ∷ []) ∷ [])
    × (map (λ b. doubled (b - 48)) ten_digits ≡ 0 ∷ 2 ∷ 4 ∷ 6 ∷ 8 ∷ 1 ∷ 3 ∷ 5 ∷ 7 ∷ 9 ∷ [])
    × (joined_up (map in_digits (ascii "FR0011337880")) ≡ 1 ∷ 5 ∷ 2 ∷ 7 ∷ 0 ∷ 0 ∷ 1 ∷ 1 ∷ 3 ∷ 3 ∷ 7 ∷ 8 ∷ 8 ∷ 0 ∷ [])
    × (counted false (0 ∷ 8 ∷ 8 ∷ 7 ∷ 3 ∷ 3 ∷ 1 ∷ 1 ∷ 0 ∷ 0 ∷ 7 ∷ 2 ∷ 5 ∷ 1 ∷ []) ≡ 50)
    -- Codes of securities that are listed, and one that is made up
    × (are_codes ("FR0011337880" ∷ "ZZ0000000016" ∷ "US0378331005" ∷ "GB0002634946" ∷ "DE0007164600" ∷ "JP3633400001" ∷ []) ≡ replicate 6 true)
    × (are_codes ("AU0000XVGZA3" ∷ "IE00B4BNMY34" ∷ "US38259P5089" ∷ []) ≡ replicate 3 true)
    -- Two digits swapped; the right digit and no other
    × (are_codes ("FR0011337808" ∷ "US0378330105" ∷ []) ≡ false ∷ false ∷ [])
    × (only (λ b. is_code (ascii "FR001133788" ++ (b ∷ []))) ten_digits ≡ ascii "0")
    -- The letters that a digit beside them can be swapped with; the digits that 0, 4 and 9 can be
    × (only twin_letter all_letters ≡ ascii "BMX")
    × (map (λ b. only (hidden b) ten_digits) (ascii "049") ≡ ascii "09" ∷ ascii "4" ∷ ascii "09" ∷ [])
    -- Not shown: 0 and 9 swapped, two letters swapped, M and 3 swapped, C for K
    × (are_codes ("FR0011337096" ∷ "FR0011337906" ∷ "US000AB00016" ∷ "US000BA00016" ∷ []) ≡ replicate 4 true)
    × (are_codes ("US000M300014" ∷ "US0003M00014" ∷ "CA0000000004" ∷ "KA0000000004" ∷ []) ≡ replicate 4 true)
