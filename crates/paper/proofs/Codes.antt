-- What a code's check digit is worth: one digit for another is shown, and so are two neighbours that are swapped, but for those
-- that count the same. Before and behind the slip the digits count what they counted, so that it is settled by what the one
-- or two bytes count where they stand.
use Prim.Native.Nat.{ℕ, ◌+◌, ◌-◌, ◌*◌, ◌/◌, ◌%◌, ◌≤◌, ◌<◌}
use native.Mathlib.Nat.{add_assoc, zero-add}
use native.Mathlib.Omega.{arith}
use mathlib.Core.Bool.{Bool, true, false, not, cond, ◌||◌, and-false}
use mathlib.Core.List.{List, [], ◌∷◌, ◌++◌, map, reverse, reverse-append, append_assoc}
use mathlib.Core.Path.{◌≡◌, refl, sym, ap, ap₂, ◌∙◌}
use borrow.Author.Tests.{eqb-true, eqb-false, eq-eqb, ne_eqb, lt-leb, ltb-true, ltb-false}
use lib.Dec.{eqb, ltb}
use Rattle.paper.specs.Units.{Byte, Digit, Text}
use Rattle.paper.specs.Lists.{joined_up}
use Rattle.paper.specs.Text.{has_code_form, is_digit, is_letter, in_digits, doubled, counted, has_check_digit, is_code}
use Rattle.paper.specs.Codes.{Codes, alike, hidden, Checked}
use Rattle.paper.proofs.Lists.{never, bounds, joined_parts}

-- Which is doubled first behind so many digits
abbrev pub behind : Bool → List Digit → Bool
behind first [] = first
behind first (d ∷ ds) = behind (not first) ds

-- Digits one behind the other count what each part counts
pub counted_append : (first : Bool) (ds es : List Digit) → counted first (ds ++ es) ≡ counted first ds + counted (behind first ds) es
counted_append first [] es = sym (zero-add _)
counted_append true (d ∷ ds) es = ap (λ (n : ℕ). doubled d + n) (counted_append false ds es) ∙ sym (add_assoc (doubled d) (counted false ds) _)
counted_append false (d ∷ ds) es = ap (λ (n : ℕ). d + n) (counted_append true ds es) ∙ sym (add_assoc d (counted true ds) _)

-- The digits of a text from its end
abbrev pub from_end : Text → List Digit
from_end t = reverse (joined_up (map in_digits t))

pub from_end_append : (s t : Text) → from_end (s ++ t) ≡ from_end t ++ from_end s
from_end_append s t = ap reverse (joined_parts in_digits s t) ∙ reverse-append (joined_up (map in_digits s)) (joined_up (map in_digits t))

-- What a text counts, by what stands behind a part of it and by that part and what stands before it
parted : (s u t : Text)
    → counted false (from_end (s ++ (u ++ t))) ≡ counted false (from_end t) + counted (behind false (from_end t)) (from_end u ++ from_end s)
parted s u t =
    ap (counted false) (from_end_append s (u ++ t) ∙ ap (λ (ds : List Digit). ds ++ from_end s) (from_end_append u t) ∙ append_assoc (from_end t) (from_end u) (from_end s))
    ∙ counted_append false (from_end t) (from_end u ++ from_end s)

-- A digit is no letter; it is one digit, below 10
pub digit_letter : (b : Byte) → is_digit b ≡ true → is_letter b ≡ false
digit_letter b h = let d = bounds 48 57 b h in simp (lt-leb 65 b (omega arith))

digit_digits : (b : Byte) → is_digit b ≡ true → (in_digits b ≡ (b - 48) ∷ []) × (b - 48 < 10)
digit_digits b h = let d = bounds 48 57 b h in (rw (digit_letter b h), omega arith)

-- What a digit counts when it is doubled: below 5, and from 5 on
data Twice (d : Digit) (v : ℕ) : Type 0 where
  low : d < 5 → v ≡ 2 * d → Twice d v
  high : 5 ≤ d → d < 10 → v + 9 ≡ 2 * d → Twice d v

twice : (d : Digit) → d < 10 → Twice d (doubled d)
twice d h = go (ltb d 5) refl
  where
    go : (b : Bool) → ltb d 5 ≡ b → Twice d (doubled d)
    go true k = low (ltb-true d 5 k) (omega (arith, ltb-true d 5 k))
    go false k = high (ltb-false d 5 k) h (omega (arith, ltb-false d 5 k))

-- Two digits that count the same, doubled, are the same
twice_same : (d e v w : ℕ) → Twice d v → Twice e w → v ≡ w → d ≡ e
twice_same d e v w (low i j) (low k l) same = omega arith
twice_same d e v w (low i j) (high k m l) same = omega arith
twice_same d e v w (high i n j) (low k l) same = omega arith
twice_same d e v w (high i n j) (high k m l) same = omega arith

-- Two digits that are the same, or 0 and 9
data Alike (d e : Digit) : Type 0 where
  equal : d ≡ e → Alike d e
  rising : d ≡ 0 → e ≡ 9 → Alike d e
  falling : d ≡ 9 → e ≡ 0 → Alike d e

-- Two numbers that end in 0 and are less than ten apart are the same
tens_same : (n m : ℕ) → n % 10 ≡ 0 → m % 10 ≡ 0 → n < m + 10 → m < n + 10 → n ≡ m
tens_same n m p q i j = omega arith

-- Of two digits one is doubled, and then the other: both sums end in 0 only where the digits are alike, and then both do
alike_only : (x d e v w : ℕ) → Twice d v → Twice e w → (x + (v + e)) % 10 ≡ 0 → (x + (w + d)) % 10 ≡ 0 → Alike d e
alike_only x d e v w (low i j) (low k l) one two =
    equal (omega (arith, tens_same (x + (v + e)) (x + (w + d)) one two (omega arith) (omega arith)))
alike_only x d e v w (low i j) (high k m l) one two =
    let same = tens_same (x + (v + e)) (x + (w + d)) one two (omega arith) (omega arith) in
    rising (omega arith) (omega arith)
alike_only x d e v w (high i n j) (low k l) one two =
    let same = tens_same (x + (v + e)) (x + (w + d)) one two (omega arith) (omega arith) in
    falling (omega arith) (omega arith)
alike_only x d e v w (high i n j) (high k m l) one two =
    equal (omega (arith, tens_same (x + (v + e)) (x + (w + d)) one two (omega arith) (omega arith)))

alike_both : (x d e : ℕ) → (x + (doubled d + e)) % 10 ≡ 0 → Alike d e → (x + (doubled e + d)) % 10 ≡ 0
alike_both x d e one (equal k) = rw (← k) (rw (← k) at one)
alike_both x d e one (rising k l) = rw (k, l) (omega (arith, rw (k, l) at one))
alike_both x d e one (falling k l) = rw (k, l) (omega (arith, rw (k, l) at one))

-- As it is tested
alike_test : (d e : Digit) → d < 10 → e < 10 → alike d e ≡ true → Alike d e
alike_test d e p q h = go (ltb d 9) refl (ltb e 9) refl
  where
    same : d % 9 ≡ e % 9
    same = eqb-true (d % 9) (e % 9) h

    go : (x : Bool) → ltb d 9 ≡ x → (y : Bool) → ltb e 9 ≡ y → Alike d e
    go true i true j = let k = ltb-true d 9 i in let l = ltb-true e 9 j in equal (omega (arith, same))
    go true i false j = let k = ltb-true d 9 i in let l = ltb-false e 9 j in rising (omega (arith, same)) (omega (arith, same))
    go false i true j = let k = ltb-false d 9 i in let l = ltb-true e 9 j in falling (omega (arith, same)) (omega (arith, same))
    go false i false j = let k = ltb-false d 9 i in let l = ltb-false e 9 j in equal (omega (arith, same))

alike_tested : (d e : Digit) → Alike d e → alike d e ≡ true
alike_tested d e (equal k) = eq-eqb (d % 9) (e % 9) (ap (λ (n : ℕ). n % 9) k)
alike_tested d e (rising k l) = rw (k, l)
alike_tested d e (falling k l) = rw (k, l)

-- So two sums tell the digits apart, unless they are alike
tell : (x n m : ℕ) (d e : Digit) → d < 10 → e < 10 → n ≡ x + (doubled d + e) → m ≡ x + (doubled e + d) → eqb (n % 10) 0 ≡ true
    → eqb (m % 10) 0 ≡ alike d e
tell x n m d e p q is_n is_m h = go (alike d e) refl
  where
    one : (x + (doubled d + e)) % 10 ≡ 0
    one = rw is_n at (eqb-true (n % 10) 0 h)

    go : (b : Bool) → alike d e ≡ b → eqb (m % 10) 0 ≡ b
    go true k = eq-eqb (m % 10) 0 (rw is_m (alike_both x d e one (alike_test d e p q k)))
    go false k =
        ne_eqb (m % 10) 0
        (λ z. never (sym k ∙ alike_tested d e (alike_only x d e (doubled d) (doubled e) (twice d p) (twice e q) one (rw is_m at z))))

-- The same, by the other of the two
alike_back : (d e : Digit) → alike e d ≡ alike d e
alike_back d e = go (eqb (d % 9) (e % 9)) refl
  where
    go : (b : Bool) → eqb (d % 9) (e % 9) ≡ b → eqb (e % 9) (d % 9) ≡ b
    go true k = eq-eqb (e % 9) (d % 9) (sym (eqb-true (d % 9) (e % 9) k))
    go false k = ne_eqb (e % 9) (d % 9) (λ same. eqb-false (d % 9) (e % 9) k (sym same))

tell_back : (x n m : ℕ) (d e : Digit) → d < 10 → e < 10 → n ≡ x + (doubled e + d) → m ≡ x + (doubled d + e) → eqb (n % 10) 0 ≡ true
    → eqb (m % 10) 0 ≡ alike d e
tell_back x n m d e p q is_n is_m h = tell x n m e d q p is_n is_m h ∙ alike_back d e

-- What the first of some digits counts, doubled or not
abbrev weight : Bool → Digit → ℕ
weight true d = doubled d
weight false d = d

weight_first : (first : Bool) (d : Digit) (ds : List Digit) → counted first (d ∷ ds) ≡ weight first d + counted (not first) ds
weight_first true d ds = refl
weight_first false d ds = refl

weight_low : (first : Bool) (d : Digit) → d < 10 → weight first d < 10
weight_low true d h = omega arith
weight_low false d h = h

weight_same : (first : Bool) (d e : Digit) → d < 10 → e < 10 → weight first d ≡ weight first e → d ≡ e
weight_same true d e p q same = twice_same d e (doubled d) (doubled e) (twice d p) (twice e q) same
weight_same false d e p q same = same

-- Of two sums that differ in one part, below 10, only one ends in 0
part_same : (x y v w : ℕ) → v < 10 → w < 10 → (x + (v + y)) % 10 ≡ 0 → (x + (w + y)) % 10 ≡ 0 → v ≡ w
part_same x y v w p q one two = omega (arith, tens_same (x + (v + y)) (x + (w + y)) one two (omega arith) (omega arith))

-- A byte in digits, by whether it is a letter
abbrev spelled : Bool → Byte → List Digit
spelled letter b = cond letter ((b - 55) / 10 ∷ (b - 55) % 10 ∷ []) ((b - 48) ∷ [])

-- Behind some digits that count x, from the right: two digits swapped
digits_told : (first : Bool) (x : ℕ) (ds : List Digit) (d e : Digit) → d < 10 → e < 10 → eqb ((x + counted first (e ∷ d ∷ ds)) % 10) 0 ≡ true
    → eqb ((x + counted first (d ∷ e ∷ ds)) % 10) 0 ≡ alike d e
digits_told true x ds d e p q h =
    tell_back (x + counted true ds) (x + counted true (e ∷ d ∷ ds)) (x + counted true (d ∷ e ∷ ds)) d e p q (omega arith) (omega arith) h
digits_told false x ds d e p q h =
    tell (x + counted false ds) (x + counted false (e ∷ d ∷ ds)) (x + counted false (d ∷ e ∷ ds)) d e p q (omega arith) (omega arith) h

-- A letter, by its two digits, and a digit behind it; a digit and a letter behind it
letter_told : (first : Bool) (x : ℕ) (ds : List Digit) (tens ones d : Digit) → tens < 10 → ones < 10
    → eqb ((x + counted first (d ∷ ones ∷ tens ∷ ds)) % 10) 0 ≡ true
    → eqb ((x + counted first (ones ∷ tens ∷ d ∷ ds)) % 10) 0 ≡ alike tens ones
letter_told true x ds tens ones d p q h =
    tell (x + (doubled d + counted false ds)) (x + counted true (d ∷ ones ∷ tens ∷ ds)) (x + counted true (ones ∷ tens ∷ d ∷ ds)) tens ones p q (omega arith) (omega arith) h
letter_told false x ds tens ones d p q h =
    tell_back (x + (d + counted true ds)) (x + counted false (d ∷ ones ∷ tens ∷ ds)) (x + counted false (ones ∷ tens ∷ d ∷ ds)) tens ones p q (omega arith) (omega arith) h

behind_told : (first : Bool) (x : ℕ) (ds : List Digit) (tens ones d : Digit) → tens < 10 → ones < 10
    → eqb ((x + counted first (ones ∷ tens ∷ d ∷ ds)) % 10) 0 ≡ true
    → eqb ((x + counted first (d ∷ ones ∷ tens ∷ ds)) % 10) 0 ≡ alike tens ones
behind_told true x ds tens ones d p q h =
    tell_back (x + (doubled d + counted false ds)) (x + counted true (ones ∷ tens ∷ d ∷ ds)) (x + counted true (d ∷ ones ∷ tens ∷ ds)) tens ones p q (omega arith) (omega arith) h
behind_told false x ds tens ones d p q h =
    tell (x + (d + counted true ds)) (x + counted false (ones ∷ tens ∷ d ∷ ds)) (x + counted false (d ∷ ones ∷ tens ∷ ds)) tens ones p q (omega arith) (omega arith) h

-- Two letters
letters_same : (first : Bool) (ds : List Digit) (t o u p : Digit)
    → counted first (p ∷ u ∷ o ∷ t ∷ ds) ≡ counted first (o ∷ t ∷ p ∷ u ∷ ds)
letters_same true ds t o u p = omega arith
letters_same false ds t o u p = omega arith

module _ (s t : Text) where
  -- What stands behind the slip counts, and which is doubled first at it
  abbrev rest : ℕ
  rest = counted false (from_end t)

  abbrev first : Bool
  first = behind false (from_end t)

  -- What the whole counts with one byte there, and with two, by their digits
  with_one : (b : Byte) (ds : List Digit) → in_digits b ≡ ds
      → counted false (from_end (s ++ (b ∷ t))) ≡ rest + counted first (reverse (ds ++ []) ++ from_end s)
  with_one b ds is = parted s (b ∷ []) t ∙ ap (λ (ds : List Digit). rest + counted first (reverse (ds ++ []) ++ from_end s)) is

  with_two : (b c : Byte) (ds es : List Digit) → in_digits b ≡ ds → in_digits c ≡ es
      → counted false (from_end (s ++ (b ∷ c ∷ t))) ≡ rest + counted first (reverse (ds ++ (es ++ [])) ++ from_end s)
  with_two b c ds es is_b is_c =
      parted s (b ∷ c ∷ []) t
      ∙ ap₂ (λ (ds es : List Digit). rest + counted first (reverse (ds ++ (es ++ [])) ++ from_end s)) is_b is_c

  -- One digit for another
  changed : (b c : Byte) → is_digit b ≡ true → is_digit c ≡ true → (b ≡ c → ⊥)
      → has_check_digit (s ++ (b ∷ t)) ≡ true → has_check_digit (s ++ (c ∷ t)) ≡ false
  unfolding has_check_digit
  changed b c p q other h =
      let d = digit_digits b p in
      let e = digit_digits c q in
      let y = counted (not first) (from_end s) in
      let is : (b : Byte) → is_digit b ≡ true → counted false (from_end (s ++ (b ∷ t))) ≡ rest + (weight first (b - 48) + y) =
      λ b p. with_one b ((b - 48) ∷ []) (digit_digits b p).0 ∙ ap (λ (n : ℕ). rest + n) (weight_first first (b - 48) (from_end s)) in
      let n = counted false (from_end (s ++ (b ∷ t))) in
      let m = counted false (from_end (s ++ (c ∷ t))) in
      ne_eqb (m % 10) 0
      (λ z.
      let same =
      weight_same first (b - 48) (c - 48) d.1 e.1
      (part_same rest y (weight first (b - 48)) (weight first (c - 48)) (weight_low first (b - 48) d.1) (weight_low first (c - 48) e.1)
      (rw (is b p) at (eqb-true (n % 10) 0 h))
      (rw (is c q) at z)) in
      other (omega (arith, same, bounds 48 57 b p, bounds 48 57 c q)))

  -- Two neighbours swapped, by what each is
  swapped : (b c : Byte) → (is_letter b || is_digit b) ≡ true → (is_letter c || is_digit c) ≡ true
      → has_check_digit (s ++ (b ∷ c ∷ t)) ≡ true → has_check_digit (s ++ (c ∷ b ∷ t)) ≡ hidden b c
  unfolding has_check_digit
  swapped b c p q h = go (is_letter b) refl (is_letter c) refl
    where
      ends : ℕ → Bool
      ends n = eqb (n % 10) 0

      two : (b c : Byte) (x y : Bool) → is_letter b ≡ x → is_letter c ≡ y
          → ends (counted false (from_end (s ++ (b ∷ c ∷ t))))
          ≡ ends (rest + counted first (reverse (spelled x b ++ (spelled y c ++ [])) ++ from_end s))
      two b c x y k l = ap ends (with_two b c (spelled x b) (spelled y c) (ap (λ (x : Bool). spelled x b) k) (ap (λ (y : Bool). spelled y c) l))

      tens_low : (b : Byte) → is_letter b ≡ true → (b - 55) / 10 < 10
      tens_low b k = let d = bounds 65 90 b k in omega arith

      ones_low : (b : Byte) → (b - 55) % 10 < 10
      ones_low b = omega arith

      go : (x : Bool) → is_letter b ≡ x → (y : Bool) → is_letter c ≡ y → ends (counted false (from_end (s ++ (c ∷ b ∷ t)))) ≡ hidden b c
      go true k true l =
          rw (k, l)
          (two c b true true l k
          ∙ ap (λ (n : ℕ). ends (rest + n)) (letters_same first (from_end s) ((c - 55) / 10) ((c - 55) % 10) ((b - 55) / 10) ((b - 55) % 10))
          ∙ sym (two b c true true k l)
          ∙ h)
      go true k false l =
          rw (k, l)
          (two c b false true l k
          ∙ letter_told first rest (from_end s) ((b - 55) / 10) ((b - 55) % 10) (c - 48) (tens_low b k) (ones_low b) (sym (two b c true false k l) ∙ h))
      go false k true l =
          rw (k, l)
          (two c b true false l k
          ∙ behind_told first rest (from_end s) ((c - 55) / 10) ((c - 55) % 10) (b - 48) (tens_low c l) (ones_low c) (sym (two b c false true k l) ∙ h))
      go false k false l =
          let i = (digit_digits b (rw k at p)).1 in
          let j = (digit_digits c (rw l at q)).1 in
          rw (k, l)
          (two c b false false l k ∙ digits_told first rest (from_end s) (b - 48) (c - 48) i j (sym (two b c false false k l) ∙ h))

-- What the check is worth
pub checked : Checked
unfolding is_code
checked = record { refused = λ t h. simp (h, and-false); changed = changed; swapped = swapped }

-- The claim
pub codes : Codes
unfolding has_code_form has_check_digit is_code
codes = (refl, refl, refl, refl, refl, refl, refl, refl, refl, refl, refl, refl)
