-- Letters, codes and currencies as numbers: how high the numbers are, what the bytes of codes and currencies are, and that their
-- numbers stand to each other as the texts do. That is said once, over the base of the last byte.
use Prim.Native.Nat.{ℕ, zero, suc, ◌+◌, ◌-◌, ◌*◌, ◌^◌, ◌≤◌, ◌<◌}
use native.Mathlib.Nat.{pow-succ', lt_trans}
use native.Mathlib.Omega.{arith}
use mathlib.Core.Bool.{Bool, true, false, ◌||◌}
use mathlib.Core.List.{[], ◌∷◌}
use mathlib.Core.Path.{◌≡◌, refl, sym, ap, ◌∙◌}
use borrow.Author.Tests.{eqb-true, eq-eqb, ne_eqb, ltb-true, lt-ltb, le-ltb}
use lib.Dec.{eqb, ltb, lit<}
use lib.ListN.{length, take, drop, take-append-drop}
use lib.Seq.{drop-drop}
use Rattle.paper.specs.Units.{Byte, Text, Code, Currency}
use Rattle.paper.specs.Lists.{between, every}
use Rattle.paper.specs.Text.{same, before, is_digit, is_letter, is_code, is_currency}
use Rattle.paper.specs.Rows.{Kind, government, corporate, inflation, floating, Trade, repo, cash, Side, seller, purchaser}
use Rattle.paper.proofs.Lists.{never, both, within, bounds, every_cons, every_append, every_weaker}
use Rattle.paper.proofs.Fields.{code_form, code_parts}
use Rattle.paper.proofs.Order.{same_refl, before_self, before_not_after, before_not_same, after_not_same}
use Rattle.paper.proofs.Order.{Compared, first, equal, second, compared}
use Rattle.tables.specs.Numbers.{kind_number, trade_number, side_number, bytes_from, code_number, currency_number}

-- Few numbers stand for letters
pub kind_below : (k : Kind) → kind_number k < 4
kind_below government = omega arith
kind_below corporate = omega arith
kind_below inflation = omega arith
kind_below floating = omega arith

pub trade_most : (trade : Trade) → trade_number trade ≤ 1
trade_most repo = omega arith
trade_most cash = omega arith

pub side_most : (side : Side) → side_number side ≤ 1
side_most seller = omega arith
side_most purchaser = omega arith

-- Bytes from `0` to `Z`, so many before the last, which counts less than a base
pub data Coded (base : ℕ) : ℕ → Text → Type 0 where
  final : {b : Byte} → 48 ≤ b → b - 48 < base → Coded base 0 (b ∷ [])
  more : {k : ℕ} {b c : Byte} {t : Text} → 48 ≤ b → b ≤ 90 → Coded base k (c ∷ t) → Coded base (suc k) (b ∷ c ∷ t)

module _ (base : ℕ) where
  -- A text of bytes from `0` to `Z` is so where it has one byte more than so many, and that one counts less than the base
  by_parts : (k : ℕ) (t : Text) → length t ≡ suc k → every (between 48 90) t ≡ true → ((b : Byte) → drop k t ≡ b ∷ [] → b - 48 < base)
      → Coded base k t
  by_parts k [] e p q = absurd (omega arith)
  by_parts zero (b ∷ []) e p q = final (bounds 48 90 b (every_cons (between 48 90) b [] p).0).0 (q b refl)
  by_parts (suc k) (b ∷ []) e p q = absurd (omega arith)
  by_parts zero (b ∷ c ∷ t) e p q = absurd (omega arith)
  by_parts (suc k) (b ∷ c ∷ t) e p q =
      let a = every_cons (between 48 90) b (c ∷ t) p in
      let d = bounds 48 90 b a.0 in
      more d.0 d.1 (by_parts k (c ∷ t) (omega arith) a.1 q)

-- Letters and digits are from `0` to `Z`
pub letter_within : (b : Byte) → is_letter b ≡ true → between 48 90 b ≡ true
letter_within b h = let d = bounds 65 90 b h in within 48 90 b (omega arith) (omega arith)

digit_within : (b : Byte) → is_digit b ≡ true → between 48 90 b ≡ true
digit_within b h = let d = bounds 48 57 b h in within 48 90 b (omega arith) (omega arith)

pub mixed_within : (b : Byte) → (is_letter b || is_digit b) ≡ true → between 48 90 b ≡ true
mixed_within b e = go (is_letter b) refl
  where
    go : (l : Bool) → is_letter b ≡ l → between 48 90 b ≡ true
    go true k = letter_within b k
    go false k = digit_within b (rw k at e)

-- A code is eleven such bytes and a digit
pub code_coded : (t : Code) → is_code t ≡ true → Coded 10 11 t
code_coded t h =
    let c = code_parts t (code_form t h) in
    by_parts 10 11 t c.twelve
    (split 2 t (every_weaker is_letter (between 48 90) letter_within (take 2 t) c.letters)
    (split 9 (drop 2 t) (every_weaker (λ b. is_letter b || is_digit b) (between 48 90) mixed_within (take 9 (drop 2 t)) c.mixed)
    (rw (drop-drop 9 2 t) (every_weaker is_digit (between 48 90) digit_within (drop 11 t) c.digit))))
    (λ b e. last b (ap (every is_digit) (sym e) ∙ c.digit))
  where
    split : (k : ℕ) (s : Text) → every (between 48 90) (take k s) ≡ true → every (between 48 90) (drop k s) ≡ true
        → every (between 48 90) s ≡ true
    split k s p q = rw (take-append-drop k s) at (every_append (between 48 90) (take k s) (drop k s) p q)

    last : (b : Byte) → every is_digit (b ∷ []) ≡ true → b - 48 < 10
    last b e = let d = bounds 48 57 b (every_cons is_digit b [] e).0 in omega arith

-- A currency is three such bytes
pub currency_coded : (t : Currency) → is_currency t ≡ true → Coded 43 2 t
currency_coded t h =
    let (three, letters) = both (eqb (length t) 3) (every is_letter t) h in
    let inside = every_weaker is_letter (between 48 90) letter_within t letters in
    by_parts 43 2 t (eqb-true (length t) 3 three) inside (λ b e. last t inside b e)
  where
    last : (t : Text) → every (between 48 90) t ≡ true → (b : Byte) → drop 2 t ≡ b ∷ [] → b - 48 < 43
    last t inside b e =
        let tail : every (between 48 90) (drop 2 t) ≡ true = behind t inside in
        let d = bounds 48 90 b (every_cons (between 48 90) b [] (ap (every (between 48 90)) (sym e) ∙ tail)).0 in
        omega arith
      where
        behind : (t : Text) → every (between 48 90) t ≡ true → every (between 48 90) (drop 2 t) ≡ true
        behind [] p = refl
        behind (a ∷ []) p = refl
        behind (a ∷ b ∷ t) p = (every_cons (between 48 90) b t (every_cons (between 48 90) a (b ∷ t) p).1).1

-- ---- how high the numbers are

-- A base in which a number read on from a higher one is higher
abbrev Wide : ℕ → Type 0
Wide base = (n m d e : ℕ) → n < m → d < base → e < base → base * n + d < base * m + e

-- The number so far is no more than the whole
pub code_grows : {k : ℕ} {t : Text} (n : ℕ) → Coded 10 k t → n ≤ bytes_from 10 n t
code_grows n (final p q) = omega arith
code_grows n (more {b} p q r) = omega (arith, code_grows (43 * n + (b - 48)) r)

-- A number of `i` digits in base 43, and bytes up to so many and the last: the whole is of so many digits in base 43 and one more
module _ (base many : ℕ) (room : (n d : ℕ) → n < 43 ^ many → d < base → base * n + d < base * 43 ^ many) where
  low : {k : ℕ} {t : Text} (n i : ℕ) → i + k ≡ many → n < 43 ^ i → Coded base k t → bytes_from base n t < base * 43 ^ many
  low n i e h (final {b} p q) =
      let last : i ≡ many = omega arith in
      room n (b - 48) (rw last at h) q
  low n i e h (more {b} p q r) =
      low (43 * n + (b - 48)) (suc i) (omega arith) (rw (pow-succ' 43 i) (omega arith)) r

-- A code's number fits a machine word, with one to spare
pub code_number_low : (t : Code) → is_code t ≡ true → code_number t < 18446744073709551615
code_number_low t h = lt_trans (low 10 11 (λ n d p q. omega arith) 0 0 (omega arith) (lit< tt) (code_coded t h)) (lit< tt)

-- A currency's number
pub currency_number_low : (t : Currency) → is_currency t ≡ true → currency_number t < 79_507
currency_number_low t h = low 43 2 (λ n d p q. omega arith) 0 0 (omega arith) (lit< tt) (currency_coded t h)

-- ---- their order

module _ (base : ℕ) (wide : Wide base) where
  -- Of two texts of as many bytes, the one read on from a smaller number makes the smaller number
  ahead : {k : ℕ} {s t : Text} (n m : ℕ) → n < m → Coded base k s → Coded base k t → bytes_from base n s < bytes_from base m t
  ahead n m h (final {b} p q) (final {b = b'} p' q') = wide n m (b - 48) (b' - 48) h q q'
  ahead n m h (more {b} p q r) (more {b = b'} p' q' r') =
      ahead (43 * n + (b - 48)) (43 * m + (b' - 48)) (omega arith) r r'

  -- Of two texts read on from one number, the one that comes before, by bytes, makes the smaller number
  less : {k : ℕ} {s t : Text} (n : ℕ) → Coded base k s → Coded base k t → before s t ≡ true → bytes_from base n s < bytes_from base n t
  less n (final {b} p q) (final {b = b'} p' q') e = go (eqb b b') refl
    where
      go : (x : Bool) → eqb b b' ≡ x → bytes_from base n (b ∷ []) < bytes_from base n (b' ∷ [])
      go true k = never (rw (k, before) at e)
      go false k = let l : b < b' = ltb-true b b' (rw (k, before) at e) in omega arith
  less n (more {b} {c} {t = s} p q r) (more {b = b'} {c = c'} {t} p' q' r') e =
      go (eqb b b') refl (less (43 * n + (b - 48)) r r')
    where
      go : (x : Bool) → eqb b b' ≡ x
          → (before (c ∷ s) (c' ∷ t) ≡ true → bytes_from base (43 * n + (b - 48)) (c ∷ s) < bytes_from base (43 * n + (b - 48)) (c' ∷ t))
          → bytes_from base n (b ∷ c ∷ s) < bytes_from base n (b' ∷ c' ∷ t)
      go true k rest = rw (← (eqb-true b b' k)) (rest (rw (k, before) at e))
      go false k rest =
          let l : b < b' = ltb-true b b' (rw (k, before) at e) in
          ahead (43 * n + (b - 48)) (43 * n + (b' - 48)) (omega arith) r r'

  module _ {k : ℕ} {s t : Text} (s_coded : Coded base k s) (t_coded : Coded base k t) where
    -- A text comes before another where its number is below the other's
    number_before : before s t ≡ ltb (bytes_from base 0 s) (bytes_from base 0 t)
    number_before = go (compared s t)
      where
        go : Compared s t → before s t ≡ ltb (bytes_from base 0 s) (bytes_from base 0 t)
        go (first e) = e ∙ sym (lt-ltb (bytes_from base 0 s) (bytes_from base 0 t) (less 0 s_coded t_coded e))
        go (equal e) = rw (← e) (before_self s ∙ sym (le-ltb (bytes_from base 0 s) (bytes_from base 0 s) (omega arith)))
        go (second e) =
            let l = less 0 t_coded s_coded e in
            before_not_after t s e ∙ sym (le-ltb (bytes_from base 0 s) (bytes_from base 0 t) (omega (arith, l)))

    -- And is the same where the numbers are
    number_same : same s t ≡ eqb (bytes_from base 0 s) (bytes_from base 0 t)
    number_same = go (compared s t)
      where
        go : Compared s t → same s t ≡ eqb (bytes_from base 0 s) (bytes_from base 0 t)
        go (first e) =
            let l = less 0 s_coded t_coded e in
            before_not_same s t e ∙ sym (ne_eqb (bytes_from base 0 s) (bytes_from base 0 t) (λ k. omega (arith, l)))
        go (equal e) = rw (← e) (same_refl s ∙ sym (eq-eqb (bytes_from base 0 s) (bytes_from base 0 s) refl))
        go (second e) =
            let l = less 0 t_coded s_coded e in
            after_not_same s t e ∙ sym (ne_eqb (bytes_from base 0 s) (bytes_from base 0 t) (λ k. omega (arith, l)))

-- Of codes, whose last byte is a digit
module _ (s t : Code) (s_code : is_code s ≡ true) (t_code : is_code t ≡ true) where
  pub code_number_before : before s t ≡ ltb (code_number s) (code_number t)
  code_number_before = number_before 10 (λ n m d e p q r. omega arith) (code_coded s s_code) (code_coded t t_code)

  pub code_number_same : same s t ≡ eqb (code_number s) (code_number t)
  code_number_same = number_same 10 (λ n m d e p q r. omega arith) (code_coded s s_code) (code_coded t t_code)

-- Of currencies
module _ (s t : Currency) (s_currency : is_currency s ≡ true) (t_currency : is_currency t ≡ true) where
  pub currency_number_before : before s t ≡ ltb (currency_number s) (currency_number t)
  currency_number_before = number_before 43 (λ n m d e p q r. omega arith) (currency_coded s s_currency) (currency_coded t t_currency)

  pub currency_number_same : same s t ≡ eqb (currency_number s) (currency_number t)
  currency_number_same = number_same 43 (λ n m d e p q r. omega arith) (currency_coded s s_currency) (currency_coded t t_currency)
