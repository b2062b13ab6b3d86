-- Laws of one field: what is written into it is read again, what is read is written as it was, and no field as it is
-- written holds a mark.
use Prim.Native.Nat.{ℕ, suc, ◌<◌}
use native.Mathlib.Omega.{arith}
use mathlib.Core.Bool.{Bool, true, false, ◌&&◌, ◌||◌}
use mathlib.Core.List.{List, [], ◌∷◌}
use mathlib.Core.Option.{Option, none, some, none-ne-some, some-injective, map-eq-some_iff}
use mathlib.Core.Path.{◌≡◌, refl, sym}
use borrow.Author.Tests.{eqb-true, ne_eqb}
use lib.Dec.{eqb}
use lib.IntN.{ℤ, pos, negsuc}
use lib.ListN.{length, take, drop, take-append-drop}
use lib.Seq.{drop-drop}
use Rattle.paper.specs.Units.{Byte, Text}
use Rattle.paper.specs.Lists.{every}
use Rattle.paper.specs.Text.{LF, semicolon, same, is_digit, is_letter, is_number, has_code_form, has_check_digit, is_code, is_currency}
use Rattle.paper.specs.Text.{or_blank, blank_or, digits, signed_digits}
use Rattle.paper.specs.Rows.{Kind, government, corporate, inflation, floating}
use Rattle.paper.specs.Rows.{Trade, repo, cash, Side, seller, purchaser}
use Rattle.paper.specs.Rows.{named, kind_letter, trade_letter, side_letter, kind_in, trade_in, side_in}
use Rattle.paper.proofs.Lists.{never, both, bounds, first_passes, every_append, every_weaker}
use Rattle.paper.proofs.Lines.{plain}
use Rattle.paper.proofs.Digits.{digits_all, digits_form}
use Rattle.paper.proofs.Order.{same_true}

-- What a letter stands for has that letter
pub named_letter : {A : Type 0} (letter : A → Text) (all : List A) (t : Text) (a : A) → named letter all t ≡ some a
    → letter a ≡ t
named_letter letter all t a h = same_true (letter a) t (first_passes (λ x. same (letter x) t) all a h)

pub kind_letter_lem : (t : Text) (k : Kind) → kind_in t ≡ some k → kind_letter k ≡ t
kind_letter_lem = named_letter kind_letter (government ∷ corporate ∷ inflation ∷ floating ∷ [])

pub trade_letter_lem : (t : Text) (k : Trade) → trade_in t ≡ some k → trade_letter k ≡ t
trade_letter_lem = named_letter trade_letter (repo ∷ cash ∷ [])

pub side_letter_lem : (t : Text) (k : Side) → side_in t ≡ some k → side_letter k ≡ t
side_letter_lem = named_letter side_letter (seller ∷ purchaser ∷ [])

-- A kind's letter stands for that kind
pub kind_back : (k : Kind) → kind_in (kind_letter k) ≡ some k
kind_back government = refl
kind_back corporate = refl
kind_back inflation = refl
kind_back floating = refl

-- A trade's letter stands for that trade
pub trade_back : (k : Trade) → trade_in (trade_letter k) ≡ some k
trade_back repo = refl
trade_back cash = refl

-- A side's letter stands for that side
pub side_back : (k : Side) → side_in (side_letter k) ≡ some k
side_back seller = refl
side_back purchaser = refl

-- A field that may be blank is read again as it was written, where what fills it is, and is never written as a blank
pub blank_back : {A : Type 0} (read : Text → Option A) (write : A → Text) (o : Option A)
    → ((a : A) → o ≡ some a → (read (write a) ≡ some a) × (0 < length (write a)))
    → or_blank read (blank_or write o) ≡ some o
blank_back read write none h = refl
blank_back read write (some a) h = go (write a) (h a refl).0 (h a refl).1
  where
    go : (t : Text) → read t ≡ some a → 0 < length t → or_blank read t ≡ some (some a)
    go [] e p = absurd (omega arith)
    go (b ∷ bs) e p = rw e

-- A field that may be blank is written again as it was read, where what fills it is
pub blank_written : {A : Type 0} (read : Text → Option A) (write : A → Text) (t : Text) (o : Option A)
    → ((u : Text) (a : A) → read u ≡ some a → o ≡ some a → write a ≡ u) → or_blank read t ≡ some o → blank_or write o ≡ t
blank_written read write [] none h e = refl
blank_written read write [] (some a) h e = absurd (none-ne-some a (some-injective none (some a) e))
blank_written read write (b ∷ bs) o h e =
    let k = (map-eq-some_iff some (read (b ∷ bs))).0 e in
    rw (← k.2) (h (b ∷ bs) k.0 k.1 (sym k.2))

-- A number is not written as a blank
pub digits_some : (n : ℕ) → 0 < length (digits n)
digits_some n = go (digits n) (digits_form n)
  where
    go : (t : Text) → is_number t ≡ true → 0 < length t
    go [] h = never h
    go (b ∷ bs) h = omega arith

-- A signed number is not written as a blank
pub signed_some : (z : ℤ) → 0 < length (signed_digits z)
signed_some (pos n) = digits_some n
signed_some (negsuc n) = omega arith

-- A byte is no mark where it is neither of the two
plain_other : (b : Byte) → (b ≡ semicolon → ⊥) → (b ≡ LF → ⊥) → plain b ≡ true
plain_other b p q = simp (ne_eqb b semicolon p, ne_eqb b LF q)

-- No digit is a mark, and no letter
digit_plain : (b : Byte) → is_digit b ≡ true → plain b ≡ true
digit_plain b h =
    let d = bounds 48 57 b h in
    plain_other b (λ e. omega arith) (λ e. omega arith)

letter_plain : (b : Byte) → is_letter b ≡ true → plain b ≡ true
letter_plain b h =
    let d = bounds 65 90 b h in
    plain_other b (λ e. omega arith) (λ e. omega arith)

-- A number is written without marks
pub digits_plain : (n : ℕ) → every plain (digits n) ≡ true
digits_plain n = every_weaker is_digit plain digit_plain (digits n) (digits_all n)

-- A signed number is written without marks
pub signed_plain : (z : ℤ) → every plain (signed_digits z) ≡ true
signed_plain (pos n) = digits_plain n
signed_plain (negsuc n) = digits_plain (suc n)

-- A field that may be blank is written without marks, where what fills it is
pub blank_plain : {A : Type 0} (write : A → Text) (o : Option A) → ((a : A) → every plain (write a) ≡ true)
    → every plain (blank_or write o) ≡ true
blank_plain write none h = refl
blank_plain write (some a) h = h a

-- No kind's letter is a mark
pub kind_plain : (k : Kind) → every plain (kind_letter k) ≡ true
kind_plain government = refl
kind_plain corporate = refl
kind_plain inflation = refl
kind_plain floating = refl

-- No trade's letter is a mark
pub trade_plain : (k : Trade) → every plain (trade_letter k) ≡ true
trade_plain repo = refl
trade_plain cash = refl

-- No side's letter is a mark
pub side_plain : (k : Side) → every plain (side_letter k) ≡ true
side_plain seller = refl
side_plain purchaser = refl

-- What is a code has the form of one
pub code_form : (t : Text) → is_code t ≡ true → has_code_form t ≡ true
unfolding is_code
code_form t h = (both (has_code_form t) (has_check_digit t) h).0

-- What that form is made of
pub record CodeParts (t : Text) : Type 0 where
  pub twelve : length t ≡ 12
  pub letters : every is_letter (take 2 t) ≡ true
  pub mixed : every (λ b. is_letter b || is_digit b) (take 9 (drop 2 t)) ≡ true
  pub digit : every is_digit (drop 11 t) ≡ true

pub code_parts : (t : Text) → has_code_form t ≡ true → CodeParts t
unfolding has_code_form
code_parts t h =
    let length? = eqb (length t) 12 in
    let letters? = every is_letter (take 2 t) in
    let mixed? = every (λ b. is_letter b || is_digit b) (take 9 (drop 2 t)) in
    let c = both (length? && letters? && mixed?) (every is_digit (drop 11 t)) h in
    let b = both (length? && letters?) mixed? c.0 in
    let a = both length? letters? b.0 in
    record { twelve = eqb-true (length t) 12 a.0; letters = a.1; mixed = b.1; digit = c.1 }

-- A code has no marks
pub code_plain : (t : Text) → is_code t ≡ true → every plain t ≡ true
code_plain t h =
    let c = code_parts t (code_form t h) in
    split 2 t (every_weaker is_letter plain letter_plain (take 2 t) c.letters)
    (split 9 (drop 2 t) (every_weaker (λ b. is_letter b || is_digit b) plain mixed_plain (take 9 (drop 2 t)) c.mixed)
    (rw (drop-drop 9 2 t) (every_weaker is_digit plain digit_plain (drop 11 t) c.digit)))
  where
    split : (k : ℕ) (s : Text) → every plain (take k s) ≡ true → every plain (drop k s) ≡ true → every plain s ≡ true
    split k s p q = rw (take-append-drop k s) at (every_append plain (take k s) (drop k s) p q)

    mixed_plain : (b : Byte) → (is_letter b || is_digit b) ≡ true → plain b ≡ true
    mixed_plain b e = go (is_letter b) refl
      where
        go : (l : Bool) → is_letter b ≡ l → plain b ≡ true
        go true k = letter_plain b k
        go false k = digit_plain b (rw k at e)

-- A code has twelve bytes
pub code_length : (t : Text) → is_code t ≡ true → length t ≡ 12
code_length t h = (code_parts t (code_form t h)).twelve

-- A currency has no marks
pub currency_plain : (t : Text) → is_currency t ≡ true → every plain t ≡ true
currency_plain t h = every_weaker is_letter plain letter_plain t (both (eqb (length t) 3) (every is_letter t) h).1

-- A currency has three letters
pub currency_length : (t : Text) → is_currency t ≡ true → length t ≡ 3
currency_length t h = eqb-true (length t) 3 (both (eqb (length t) 3) (every is_letter t) h).0
