-- Bytes written into a lent buffer, and the lines of the report as they are written.
use Rattle.std.specs.Prelude.{ℕ, zero, suc, ◌+◌, ◌/◌, ◌%◌, [], ◌∷◌, ◌++◌, ◌≡◌, length, take, drop}
use Rattle.paper.specs.Units.{Text, Code, Currency, Number, Line, Class, SignedCents, Whole, SignedWhole, Cents}
use Rattle.paper.specs.Text.{ascii, line_of, digits, signed_digits}

-- A place in the report, in bytes from its start
abbrev pub Place : Type 0
Place = ℕ

-- A text at a place of a buffer: what stood there gives way to it, all else stays
abbrev pub written : Text → Place → Text → Text
written text at buffer = take at buffer ++ (text ++ drop (at + length text) buffer)

-- What writing a text at a place of a buffer gives: the place behind it, and the buffer with it
abbrev pub Wrote : Text → Place → Text → Place → Text → Type 0
Wrote text at buffer next after = (next ≡ at + length text) × (after ≡ written text at buffer)

-- The two digits of a number below a hundred
abbrev pub pair : ℕ → Text
pair n = (48 + n / 10) ∷ (48 + n % 10) ∷ []

-- The four digits of a number below ten thousand
abbrev pub four : ℕ → Text
four n = pair (n / 100) ++ pair (n % 100)

-- The eight digits of a number below a hundred million
abbrev pub eight : ℕ → Text
eight n = four (n / 10_000) ++ four (n % 10_000)

-- The three letters of a currency, by its number
abbrev pub money_text : ℕ → Currency
money_text n = (48 + n / 1849) ∷ (48 + n / 43 % 43) ∷ (48 + n % 43) ∷ []

-- The bytes that a number in base 43 was made of, so many of them, before those behind them
abbrev pub spelled : ℕ → ℕ → Text → Text
spelled zero n behind = behind
spelled (suc many) n behind = spelled many (n / 43) ((48 + n % 43) ∷ behind)

-- The twelve bytes of a code, by its number: the last is a digit
abbrev pub code_text : ℕ → Code
code_text n = spelled 11 (n / 10) ((48 + n % 10) ∷ [])

-- M;line;currency;mark-to-market, in cents
abbrev pub mark_line : Line → Currency → SignedCents → Text
mark_line line currency mark = line_of (ascii "M" ∷ digits line ∷ currency ∷ signed_digits mark ∷ [])

-- K;currency;class;long;short;margin, in whole units
abbrev pub position_line : Currency → Class → Whole → Whole → Whole → Text
position_line currency class long short margin =
    line_of (ascii "K" ∷ currency ∷ digits class ∷ digits long ∷ digits short ∷ digits margin ∷ [])

-- Z;currency;mark-to-market;initial;total, in cents, whole units and cents
abbrev pub total_line : Currency → SignedCents → Whole → Cents → Text
total_line currency mark initial total =
    line_of (ascii "Z" ∷ currency ∷ signed_digits mark ∷ digits initial ∷ digits total ∷ [])

-- P;code;net, in whole units
abbrev pub security_line : Code → SignedWhole → Text
security_line code net = line_of (ascii "P" ∷ code ∷ signed_digits net ∷ [])

-- R;line;off long;off short, in whole units
abbrev pub taken_line : Line → Whole → Whole → Text
taken_line line long short = line_of (ascii "R" ∷ digits line ∷ digits long ∷ digits short ∷ [])

-- N;refusal;line, which the forecast prints alone
abbrev pub refusal_line : Number → Line → Text
refusal_line number line = line_of (ascii "N" ∷ digits number ∷ digits line ∷ [])
