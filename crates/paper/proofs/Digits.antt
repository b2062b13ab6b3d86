-- Laws of numbers as they are written and read: digits give the number back, and a number its digits.
use Prim.Native.Nat.{ℕ, zero, suc, ◌+◌, ◌-◌, ◌*◌, ◌/◌, ◌%◌, ◌^◌, ◌≤◌, ◌<◌}
use native.Mathlib.Nat.{mul-le-mul_right, pow-succ', one-le-pow}
use native.Mathlib.Omega.{arith}
use mathlib.Core.Bool.{Bool, true, false, ◌&&◌}
use mathlib.Core.List.{[], ◌∷◌, ◌++◌, append-nil}
use mathlib.Core.Option.{some, none-ne-some, some-injective, map-eq-some_iff}
use mathlib.Core.Path.{◌≡◌, refl, sym, ap, ◌∙◌}
use borrow.Author.Tests.{ltb-true, ltb-false, eqb-true, lt-ltb, le-ltb, le-leb, eq-eqb, ne_eqb}
use lib.Dec.{eqb, leb, ltb, lit<}
use lib.IntN.{ℤ, pos, negsuc, nat_abs}
use lib.ListN.{length}
use Rattle.paper.specs.Units.{Byte, Text, Date}
use Rattle.paper.specs.Lists.{between, every}
use Rattle.paper.specs.Days.{is_real, day_in, is_day}
use Rattle.paper.specs.Text.{hyphen, is_digit, decimal, is_number, number_in, below, signed_in, date_in}
use Rattle.paper.specs.Text.{digits_before, digits, signed_digits}
use Rattle.paper.proofs.Lists.{never, both, when_some, given_when, bind_some, within, bounds, every_step, every_cons}
use Rattle.paper.proofs.Days.{real}

-- A text is the digits of a number before another text
data Spelt : ℕ → Text → Text → Type 0 where
  last : {n : ℕ} {t : Text} → n < 10 → Spelt n t ((48 + n) ∷ t)
  more : {n : ℕ} {t s : Text} → 10 ≤ n → Spelt (n / 10) ((48 + n % 10) ∷ t) s → Spelt n t s

-- Such a text is the one that is written, where enough digits are allowed
spelt_before : {n : ℕ} {t s : Text} → Spelt n t s → (most : ℕ) → n < most → digits_before most n t ≡ s
spelt_before (last p) zero h = absurd (omega arith)
spelt_before (last {n} p) (suc most) h = rw (lt-ltb n 10 p, digits_before)
spelt_before (more p s) zero h = absurd (omega arith)
spelt_before (more {n} p s) (suc most) h = rw (le-ltb n 10 p, digits_before) (spelt_before s most (omega arith))

-- And the one that is written is such a text
before_spelt : (most n : ℕ) (t : Text) → n < most → Spelt n t (digits_before most n t)
before_spelt zero n t h = absurd (omega arith)
before_spelt (suc most) n t h = go (ltb n 10) refl (before_spelt most (n / 10) ((48 + n % 10) ∷ t))
  where
    go : (b : Bool) → ltb n 10 ≡ b
        → (n / 10 < most → Spelt (n / 10) ((48 + n % 10) ∷ t) (digits_before most (n / 10) ((48 + n % 10) ∷ t)))
        → Spelt n t (digits_before (suc most) n t)
    go true e r = rw (e, digits_before) (last (ltb-true n 10 e))
    go false e r =
        let p = ltb-false n 10 e in
        rw (e, digits_before) (more p (r (omega arith)))

spelt : (n : ℕ) → Spelt n [] (digits n)
unfolding digits
spelt n = before_spelt (suc n) n [] (omega arith)

-- It means the number, read on into the text behind it
spelt_decimal : {n : ℕ} {t s : Text} → Spelt n t s → decimal 0 s ≡ decimal n t
spelt_decimal (last {n} {t} p) = ap (λ (m : ℕ). decimal m t) (omega arith)
spelt_decimal (more {n} {t} p s) = spelt_decimal s ∙ ap (λ (m : ℕ). decimal m t) (omega arith)

-- One digit more before digits
digit_front : (n : ℕ) (t : Text) → n < 10 → every is_digit t ≡ true → every is_digit ((48 + n) ∷ t) ≡ true
digit_front n t p h = rw (every_step is_digit (48 + n) t, within 48 57 (48 + n) (omega arith) (omega arith)) h

-- It is all digits, where the text behind it is
spelt_all : {n : ℕ} {t s : Text} → Spelt n t s → every is_digit t ≡ true → every is_digit s ≡ true
spelt_all (last {n} {t} p) h = digit_front n t p h
spelt_all (more {n} {t} p s) h = spelt_all s (digit_front (n % 10) t (omega arith) h)

-- Digits of which the first is not 0 are a number
number_front : (b : Byte) (t : Text) → 49 ≤ b → b ≤ 57 → every is_digit t ≡ true → is_number (b ∷ t) ≡ true
number_front b [] p q h = within 48 57 b (omega arith) q
number_front b (c ∷ t) p q h = rw (within 49 57 b p q) h

-- It is a number in form, where the number is not 0
spelt_number : {n : ℕ} {t s : Text} → Spelt n t s → every is_digit t ≡ true → 0 < n → is_number s ≡ true
spelt_number (last {n} {t} p) h k = number_front (48 + n) t (omega arith) (omega arith) h
spelt_number (more {n} {t} p s) h k = spelt_number s (digit_front (n % 10) t (omega arith) h) (omega arith)

-- It has a digit for each power of ten that the number reaches, and no more
spelt_most : {n : ℕ} {t s : Text} → Spelt n t s → (k : ℕ) → n < 10 ^ suc k → length s ≤ suc k + length t
spelt_most (last p) k h = omega arith
spelt_most (more p s) zero h = absurd (omega arith)
spelt_most (more p s) (suc k) h = omega (arith, spelt_most s k (omega arith))

spelt_least : {n : ℕ} {t s : Text} → Spelt n t s → (k : ℕ) → 10 ^ k ≤ n → suc k + length t ≤ length s
spelt_least (last p) zero h = omega arith
spelt_least (last p) (suc k) h = absurd (omega (arith, one-le-pow k 10 (lit< tt)))
spelt_least (more p s) zero h = omega (arith, spelt_least s zero (omega arith))
spelt_least (more p s) (suc k) h = omega (arith, spelt_least s k (omega arith))

-- More digits behind a number that is not 0
spelt_behind : (m : ℕ) {s : Text} (bs t : Text) → 0 < m → every is_digit bs ≡ true → Spelt m (bs ++ t) s
    → Spelt (decimal m bs) t s
spelt_behind m [] t p h s = s
spelt_behind m {s} (b ∷ bs) t p h r =
    let e = every_cons is_digit b bs h in
    let d = bounds 48 57 b e.0 in
    let ten : (10 * m + (b - 48)) / 10 ≡ m = omega arith in
    let one : 48 + (10 * m + (b - 48)) % 10 ≡ b = omega arith in
    spelt_behind (10 * m + (b - 48)) bs t (omega arith) e.1 (more (omega arith) (rw (ten, one) r))

-- One digit before a text
first : (b : Byte) (t : Text) → (48 ≤ b) × (b ≤ 57) → Spelt (0 + (b - 48)) t (b ∷ t)
first b t h =
    let e : 48 + (0 + (b - 48)) ≡ b = omega arith in
    rw e at (last {n = 0 + (b - 48)} {t = t} (omega arith))

-- What has the form of a number is the digits of the number that it means
number_spelt : (t : Text) → is_number t ≡ true → Spelt (decimal 0 t) [] t
number_spelt [] h = never h
number_spelt (b ∷ []) h = first b [] (bounds 48 57 b h)
number_spelt (b ∷ c ∷ bs) h =
    let k = both (between 49 57 b) (every is_digit (c ∷ bs)) h in
    let d = bounds 49 57 b k.0 in
    spelt_behind (0 + (b - 48)) (c ∷ bs) [] (omega arith) k.1 (rw (append-nil (c ∷ bs)) (first b (c ∷ bs) (omega arith)))

-- What is written means the number
pub digits_decimal : (n : ℕ) → decimal 0 (digits n) ≡ n
digits_decimal n = spelt_decimal (spelt n)

-- A number is written in digits alone
pub digits_all : (n : ℕ) → every is_digit (digits n) ≡ true
digits_all n = spelt_all (spelt n) refl

-- A number below a power of ten is written in that many digits or fewer
pub digits_length : (n k : ℕ) → n < 10 ^ suc k → length (digits n) ≤ suc k
digits_length n k h = omega (arith, spelt_most (spelt n) k h)

-- A number is written in the form of one
pub digits_form : (n : ℕ) → is_number (digits n) ≡ true
unfolding digits
digits_form zero = refl
digits_form (suc n) = spelt_number (spelt (suc n)) refl (omega arith)

-- What has the form of a number, and not too many digits, is read as it means
number_some : (t : Text) → length t ≤ 19 → is_number t ≡ true → number_in t ≡ some (decimal 0 t)
unfolding number_in
number_some t p h = simp (le-leb (length t) 19 p, h)

-- A number that is written is read again
pub digits_number : (n : ℕ) → n < 10 ^ 19 → number_in (digits n) ≡ some n
digits_number n h = number_some (digits n) (digits_length n 18 h) (digits_form n) ∙ ap some (digits_decimal n)

-- A number that is read is written as it was
pub number_digits : (t : Text) (n : ℕ) → number_in t ≡ some n → digits n ≡ t
unfolding number_in digits
number_digits t n h =
    let w = when_some (leb (length t) 19 && is_number t) (decimal 0 t) n h in
    let s = rw w.1 at (number_spelt t (both (leb (length t) 19) (is_number t) w.0).1) in
    spelt_before s (suc n) (omega arith)

-- Digits are read as a number that is not below zero
digits_signed : (t : Text) (n : ℕ) → every is_digit t ≡ true → number_in t ≡ some n → signed_in t ≡ some (pos n)
unfolding number_in
digits_signed [] n h e = absurd (none-ne-some n e)
digits_signed (b ∷ bs) n h e =
    let d = bounds 48 57 b (every_cons is_digit b bs h).0 in
    let k : eqb b hyphen ≡ false = ne_eqb b hyphen (λ q. omega arith) in
    rw (k, signed_in, e)

-- A signed number that is written is read again
pub signed_back : (z : ℤ) → nat_abs z < 10 ^ 19 → signed_in (signed_digits z) ≡ some z
signed_back (pos n) h = digits_signed (digits n) n (digits_all n) (digits_number n h)
signed_back (negsuc n) h = rw (digits_number (suc n) h)

-- A signed number that is read is written as it was
pub signed_digits_lem : (t : Text) (z : ℤ) → signed_in t ≡ some z → signed_digits z ≡ t
signed_digits_lem [] z h = absurd (none-ne-some z h)
signed_digits_lem (b ∷ bs) z h = go (eqb b hyphen) refl
  where
    minus : (m : ℕ) → b ≡ hyphen → number_in bs ≡ some m → below m ≡ some z → signed_digits z ≡ b ∷ bs
    minus zero q r e = absurd (none-ne-some z e)
    minus (suc m) q r e = rw (← (some-injective (negsuc m) z e), q, number_digits bs (suc m) r)

    go : (c : Bool) → eqb b hyphen ≡ c → signed_digits z ≡ b ∷ bs
    go true e =
        let k = bind_some (number_in bs) below z (rw (e, signed_in) at h) in
        minus k.0 (eqb-true b hyphen e) k.1 k.2
    go false e =
        let k = (map-eq-some_iff pos (number_in (b ∷ bs))).0 (rw (e, signed_in) at h) in
        rw (← k.2) (number_digits (b ∷ bs) k.0 k.1)

-- A signed number whose size is below a power of ten is written in that many digits and a sign, or less
pub signed_length : (z : ℤ) (k : ℕ) → nat_abs z < 10 ^ suc k → length (signed_digits z) ≤ suc (suc k)
signed_length (pos n) k h = omega (arith, digits_length n k h)
signed_length (negsuc n) k h = omega (arith, digits_length (suc n) k h)

-- A real day's number has eight digits
day_bounds : (d : Date) → is_day d ≡ true → (10_000_000 ≤ d) × (d < 100_000_000)
day_bounds d h =
    let y = d / 10_000 in
    let month = d / 100 % 100 in
    let day = d % 100 in
    let g = given_when (leb 1 month && leb 1 day && is_real y (month - 1) (day - 1)) (day_in y (month - 1) (day - 1)) h in
    let r = real y (month - 1) (day - 1) (both (leb 1 month && leb 1 day) (is_real y (month - 1) (day - 1)) g).1 in
    go r.low r.high
  where
    go : 2000 ≤ d / 10_000 → d / 10_000 ≤ 2399 → (10_000_000 ≤ d) × (d < 100_000_000)
    go p q = omega arith

-- A real day is written in eight digits
pub date_eight : (d : Date) → is_day d ≡ true → length (digits d) ≡ 8
date_eight d h =
    let b = day_bounds d h in
    omega (arith, spelt_most (spelt d) 7 b.1, spelt_least (spelt d) 7 b.0)

-- Eight digits are read as they mean
date_some : (t : Text) → length t ≡ 8 → every is_digit t ≡ true → date_in t ≡ decimal 0 t
unfolding date_in
date_some t e h = simp (eq-eqb (length t) 8 e, h)

-- A real day that is written is read again
pub date_back : (d : Date) → is_day d ≡ true → date_in (digits d) ≡ d
date_back d h = date_some (digits d) (date_eight d h) (digits_all d) ∙ digits_decimal d

-- What digits mean behind a number is below the next number's
decimal_below : (m : ℕ) (bs : Text) → every is_digit bs ≡ true → decimal m bs < suc m * 10 ^ length bs
decimal_below m [] h = omega arith
decimal_below m (b ∷ bs) h =
    let e = every_cons is_digit b bs h in
    let d = bounds 48 57 b e.0 in
    let nine : b - 48 ≤ 9 = omega arith in
    rw (pow-succ' 10 (length bs))
    (omega (arith, decimal_below (10 * m + (b - 48)) bs e.1, mul-le-mul_right (10 ^ length bs) nine))

-- Eight digits that mean a number of eight digits have no 0 in front
eight_form : (t : Text) → length t ≡ 8 → every is_digit t ≡ true → 10_000_000 ≤ decimal 0 t → is_number t ≡ true
eight_form [] l h p = absurd (omega arith)
eight_form (b ∷ bs) l h p =
    let e = every_cons is_digit b bs h in
    let d = bounds 48 57 b e.0 in
    let seven : length bs ≡ 7 = omega arith in
    number_front b bs (omega (arith, rw seven at (decimal_below (0 + (b - 48)) bs e.1))) d.1 e.1

-- A real day that is read is written as it was
pub date_digits : (t : Text) (d : Date) → date_in t ≡ d → is_day d ≡ true → digits d ≡ t
unfolding date_in
date_digits t d e is_day_lem = go (eqb (length t) 8 && every is_digit t) refl
  where
    go : (c : Bool) → (eqb (length t) 8 && every is_digit t) ≡ c → digits d ≡ t
    go false f =
        let nothing : date_in t ≡ 0 = rw f in
        never (sym (ap is_day (sym e ∙ nothing)) ∙ is_day_lem)
    go true f =
        let k = both (eqb (length t) 8) (every is_digit t) f in
        let l = eqb-true (length t) 8 k.0 in
        let r : decimal 0 t ≡ d = sym (date_some t l k.1) ∙ e in
        let form = eight_form t l k.1 (rw r (day_bounds d is_day_lem).0) in
        number_digits t d (number_some t (omega arith) form ∙ ap some r)
