-- A number's digits by its ones and tens, and by two, four and eight at a time; that they are those that std writes of it, and how
-- many they are.
use mathlib.Core.Bool.{Bool, true, false}
use mathlib.Core.List.{append_assoc}
use borrow.Author.Tests.{ltb-false, lt-ltb, le-ltb}
use lib.Dec.{ltb}
use Rattle.std.proofs.Common.{rules, ℕ, zero, suc, ◌+◌, ◌*◌, ◌/◌, ◌%◌, ◌^◌, max, ◌≤◌, ◌<◌, arith, [], ◌∷◌, ◌++◌, length, length-append, ◌≡◌, refl, ◌∙◌}
use Rattle.std.proofs.Math.Nat.{pow-suc}
use Rattle.std.specs.Fmt.{decimal}
use Rattle.std.proofs.lemmas.List.{append-nil}
use Rattle.std.proofs.lemmas.Fmt.{decimal_from_prepends, decimal_by_steps, length-decimal-le_succ}
use Rattle.paper.specs.Units.{Text}
use Rattle.paper.specs.Text.{digits_before, digits}
use Rattle.lines.specs.Written.{pair, four, eight}
use Rattle.lines.proofs.Written.{Parts}

-- ---- by ones and tens, and more at a time

-- What stands behind digits has no part in them, nor how many are allowed, where that is enough
behind : (a b n : ℕ) (s t : Text) → n < a → n < b → digits_before a n (s ++ t) ≡ digits_before b n s ++ t
behind zero b n s t p q = absurd (omega arith)
behind (suc a) zero n s t p q = absurd (omega arith)
behind (suc a) (suc b) n s t p q = go (ltb n 10) refl (behind a b (n / 10) ((48 + n % 10) ∷ s) t)
  where
    go : (c : Bool) → ltb n 10 ≡ c
        → (n / 10 < a → n / 10 < b → digits_before a (n / 10) ((48 + n % 10) ∷ s ++ t) ≡ digits_before b (n / 10) ((48 + n % 10) ∷ s) ++ t)
        → digits_before (suc a) n (s ++ t) ≡ digits_before (suc b) n s ++ t
    go true e r = rw (e, digits_before)
    go false e r =
        let ten = ltb-false n 10 e in
        rw (e, digits_before) (r (omega arith) (omega arith))

-- A number below ten is one digit
pub digits_one : (n : ℕ) → n < 10 → digits n ≡ (48 + n) ∷ []
unfolding digits
digits_one n h = rw (lt-ltb n 10 h, digits_before)

-- Any other is its tens, then its ones
pub digits_more : (n : ℕ) → 10 ≤ n → digits n ≡ digits (n / 10) ++ ((48 + n % 10) ∷ [])
unfolding digits
digits_more n h = rw (le-ltb n 10 h, digits_before) (behind n (suc (n / 10)) (n / 10) [] ((48 + n % 10) ∷ []) (omega arith) (omega arith))

-- A number of two digits is both of them
pub digits_two : (n : ℕ) → 10 ≤ n → n < 100 → digits n ≡ pair n
digits_two n h k = rw (digits_more n h, digits_one (n / 10) (omega arith))

-- From a hundred on a number is its hundreds, then two digits
pub digits_hundreds : (n : ℕ) → 100 ≤ n → Parts (digits n) (digits (n / 100)) (pair (n % 100))
digits_hundreds n h =
    let hundreds : n / 10 / 10 ≡ n / 100 = omega arith in
    let tens : n / 10 % 10 ≡ n % 100 / 10 = omega arith in
    let ones : n % 10 ≡ n % 100 % 10 = omega arith in
    record {
      are =
          rw (digits_more n (omega arith), digits_more (n / 10) (omega arith), hundreds, tens, ones)
          (append_assoc (digits (n / 100)) ((48 + n % 100 / 10) ∷ []) ((48 + n % 100 % 10) ∷ []));
    }

-- From ten thousand on it is its ten thousands, then four
pub digits_myriads : (n : ℕ) → 10_000 ≤ n → Parts (digits n) (digits (n / 10_000)) (four (n % 10_000))
digits_myriads n h =
    let myriads : n / 100 / 100 ≡ n / 10_000 = omega arith in
    let hundreds : n / 100 % 100 ≡ n % 10_000 / 100 = omega arith in
    let ones : n % 100 ≡ n % 10_000 % 100 = omega arith in
    record {
      are =
          rw ((digits_hundreds n (omega arith)).are, (digits_hundreds (n / 100) (omega arith)).are, myriads, hundreds, ones)
          (append_assoc (digits (n / 10_000)) (pair (n % 10_000 / 100)) (pair (n % 10_000 % 100)));
    }

-- From a hundred million on it is its hundred millions, then eight
pub digits_hundred_millions : (n : ℕ) → 100_000_000 ≤ n → Parts (digits n) (digits (n / 100_000_000)) (eight (n % 100_000_000))
digits_hundred_millions n h =
    let millions : n / 10_000 / 10_000 ≡ n / 100_000_000 = omega arith in
    let myriads : n / 10_000 % 10_000 ≡ n % 100_000_000 / 10_000 = omega arith in
    let ones : n % 10_000 ≡ n % 100_000_000 % 10_000 = omega arith in
    record {
      are =
          rw ((digits_myriads n (omega arith)).are, (digits_myriads (n / 10_000) (omega arith)).are, millions, myriads, ones)
          (append_assoc (digits (n / 100_000_000)) (four (n % 100_000_000 / 10_000)) (four (n % 100_000_000 % 10_000)));
    }

-- ---- as std writes them

-- A number of 64 bits is written as std writes it
pub digits_decimal : (n : ℕ) → n < 2 ^ 64 → digits n ≡ decimal n
unfolding digits
digits_decimal n h =
    decimal_from_prepends digits_before (search rules) (suc n) n [] h (search (rules, length-decimal-le_succ)) ∙ append-nil (decimal n)

-- A text has a byte more than its number has powers of ten
abbrev Sized : ℕ → Text → Type 0
Sized n t = (k : ℕ) → 10 ^ k ≤ max n 1 → max n 1 < 10 * 10 ^ k → length t ≡ 1 + k

-- One digit has
one_sized : (n : ℕ) → n < 10 → Sized n ((48 + n) ∷ [])
one_sized n h zero p q = omega arith
one_sized n h (suc k) p q = absurd (grind arith)

-- And so has one digit more
more_sized : (n : ℕ) (t : Text) → 10 ≤ n → Sized (n / 10) t → Sized n (t ++ ((48 + n % 10) ∷ []))
more_sized n t h s zero p q = absurd (omega arith)
more_sized n t h s (suc k) p q =
    let power : 10 ^ suc k ≡ 10 ^ k * 10 = pow-suc 10 k in
    let before : length t ≡ 1 + k = s k (omega arith) (omega arith) in
    omega (arith, length-append t ((48 + n % 10) ∷ []))

-- So a number of 64 bits has a digit more than powers of ten; 0 has as many as 1
pub digits_length : (n k some : ℕ) → n < 2 ^ 64 → some ≡ max n 1 → 10 ^ k ≤ some → some < 10 * 10 ^ k → length (digits n) ≡ 1 + k
digits_length n k some h e p q =
    rw (digits_decimal n h) (decimal_by_steps Sized one_sized more_sized n h k (rw e at p) (rw e at q))
