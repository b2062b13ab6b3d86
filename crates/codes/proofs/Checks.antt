-- A code's number and its check digit in one pass: what is read so far is held as the number so far and as two sums, what its
-- digits count where the last of them counts once and where it is doubled.
use Prim.Native.Nat.{ℕ, zero, suc, ◌+◌, ◌-◌, ◌*◌, ◌/◌, ◌%◌, ◌^◌, ◌≤◌, ◌<◌}
use native.Mathlib.Nat.{add-zero, add-suc, suc-add, pow-succ', pow-le-pow_right}
use native.Mathlib.Numerals.{add-one}
use native.Mathlib.Omega.{arith}
use mathlib.Core.Bool.{Bool, true, false, cond, ◌&&◌, ◌||◌}
use mathlib.Core.List.{[], ◌∷◌, ◌++◌, reverse, append_assoc}
use mathlib.Core.Option.{Option, none}
use mathlib.Core.Path.{◌≡◌, refl, sym, ap, ap₂, ◌∙◌}
use lib.Dec.{eqb, lit<}
use lib.ListN.{length, get_or, take, drop}
use Rattle.std.proofs.lemmas.List.{drop_more}
use Rattle.std.specs.Bool.{then_some}
use Rattle.answers.specs.Options.{answer}
use Rattle.paper.specs.Units.{Byte, Text}
use Rattle.paper.specs.Lists.{between, every, when}
use Rattle.paper.specs.Text.{is_digit, is_letter, in_digits, counted, has_code_form, has_check_digit, is_code}
use Rattle.paper.proofs.Lists.{never, bounds, every_cons}
use Rattle.paper.proofs.Codes.{from_end, from_end_append, digit_letter}
use Rattle.tables.specs.Numbers.{bytes_from}
use Rattle.tables.proofs.Numbers.{mixed_within}
use Rattle.codes.specs.Counts.{byte_counts, byte_counts_from, counts_table, checked_in, code_in}

-- Something, where a test passes, as the code has it
pub answer_when : {A : Type 0} (b : Bool) (a : A) → answer (when b a) ≡ then_some b a
answer_when true a = refl
answer_when false a = refl

-- A byte that a code may have before its last
abbrev pub mixed : Byte → Bool
mixed b = is_letter b || is_digit b

-- What the digits up to a byte count, by what they counted before it: the last of them doubled, or not. A letter is two digits,
-- so that before it those are doubled that were; before one digit the others are
abbrev pub sum_with : Bool → Byte → ℕ → ℕ → ℕ
sum_with first b once twice =
    counted first (reverse (in_digits b)) + cond (is_letter b) (cond first twice once) (cond first once twice)

sum_more : (first : Bool) (p : Text) (b : Byte)
    → counted first (from_end (p ++ (b ∷ []))) ≡ sum_with first b (counted false (from_end p)) (counted true (from_end p))
sum_more first p b = ap (counted first) (from_end_append p (b ∷ [])) ∙ go first (is_letter b) refl
  where
    go : (first x : Bool) → is_letter b ≡ x
        → counted first (from_end (b ∷ []) ++ from_end p) ≡ sum_with first b (counted false (from_end p)) (counted true (from_end p))
    go true true k = rw k (omega arith)
    go true false k = rw k (omega arith)
    go false true k = rw k (omega arith)
    go false false k = rw k (omega arith)

-- What so many bytes and a last one give, read on from a number and two sums
abbrev pub taken : ℕ → ℕ → ℕ → ℕ → Text → Option ℕ
taken k n once twice [] = none
taken zero n once twice (b ∷ t) = when (is_digit b && eqb ((twice + (b - 48)) % 10) 0) (10 * n + (b - 48))
taken (suc k) n once twice (b ∷ t) =
    cond (mixed b) (taken k (43 * n + (b - 48)) (sum_with false b once twice) (sum_with true b once twice) t) none

-- That is the number where the bytes are those of a code and all digits, with those of the text before them, end in 0
taken_is : (k n : ℕ) (p t : Text) → length t ≡ suc k
    → taken k n (counted false (from_end p)) (counted true (from_end p)) t
    ≡ when (every mixed (take k t) && every is_digit (drop k t) && eqb (counted false (from_end (p ++ t)) % 10) 0) (bytes_from 10 n t)
taken_is k n p [] e = absurd (omega arith)
taken_is zero n p (b ∷ []) e = go (is_digit b) refl
  where
    go : (x : Bool) → is_digit b ≡ x
        → taken 0 n (counted false (from_end p)) (counted true (from_end p)) (b ∷ [])
        ≡ when (every is_digit (b ∷ []) && eqb (counted false (from_end (p ++ (b ∷ []))) % 10) 0) (10 * n + (b - 48))
    go true k =
        let sums : counted false (from_end (p ++ (b ∷ []))) ≡ counted true (from_end p) + (b - 48) =
        sum_more false p b ∙ rw (digit_letter b k) (omega arith) in
        rw (k, every, sums)
    go false k = rw (k, every)
taken_is (suc k) n p (b ∷ []) e = absurd (omega arith)
taken_is zero n p (b ∷ c ∷ t) e = absurd (omega arith)
taken_is (suc k) n p (b ∷ c ∷ t) e = go (mixed b) refl (taken_is k (43 * n + (b - 48)) (p ++ (b ∷ [])) (c ∷ t) (omega arith))
  where
    rest : Text → Option ℕ
    rest u =
        when (every mixed (take k (c ∷ t)) && every is_digit (drop k (c ∷ t)) && eqb (counted false (from_end u) % 10) 0) (bytes_from 10 (43 * n + (b - 48)) (c ∷ t))

    go : (x : Bool) → mixed b ≡ x
        → taken k (43 * n + (b - 48)) (counted false (from_end (p ++ (b ∷ [])))) (counted true (from_end (p ++ (b ∷ [])))) (c ∷ t) ≡ rest ((p ++ (b ∷ [])) ++ (c ∷ t))
        → taken (suc k) n (counted false (from_end p)) (counted true (from_end p)) (b ∷ c ∷ t)
        ≡ when (every mixed (b ∷ take k (c ∷ t)) && every is_digit (drop k (c ∷ t)) && eqb (counted false (from_end (p ++ (b ∷ c ∷ t))) % 10) 0) (bytes_from 10 (43 * n + (b - 48)) (c ∷ t))
    go true h ih =
        rw (h, every)
        (ap₂ (λ (once twice : ℕ). taken k (43 * n + (b - 48)) once twice (c ∷ t)) (sym (sum_more false p b)) (sym (sum_more true p b))
        ∙ ih
        ∙ ap rest (append_assoc p (b ∷ []) (c ∷ t)))
    go false h ih = rw (h, every)

-- Twelve bytes from their start
taken_all : (t : Text) → length t ≡ 12 → checked_in t ≡ taken 11 0 0 0 t
unfolding has_check_digit
taken_all t e = sym (taken_is 11 0 [] t e)

-- The table at a byte
table_from : (k : ℕ) (b i : ℕ) → i < k → get_or (byte_counts_from k b) i 0 ≡ byte_counts (b + i)
table_from zero b i h = absurd (omega arith)
table_from (suc k) b zero h = ap byte_counts (sym (add-zero b))
table_from (suc k) b (suc i) h = table_from k (suc b) i (omega arith) ∙ ap byte_counts (suc-add b i ∙ sym (add-suc b i))

pub table_at : (b : Byte) → between 48 90 b ≡ true → (b - 48 < 43) × (get_or counts_table (b - 48) 0 ≡ byte_counts b)
unfolding counts_table
table_at b h =
    let d = bounds 48 90 b h in
    let back : 48 + (b - 48) ≡ b = omega arith in
    (omega arith, table_from 43 48 (b - 48) (omega arith) ∙ ap byte_counts back)

-- Neither number of a byte is above 18, two digits of 9
count_low : (first : Bool) (b : Byte) → mixed b ≡ true → counted first (reverse (in_digits b)) ≤ 18
count_low first b h = go first (is_letter b) refl
  where
    go : (first x : Bool) → is_letter b ≡ x → counted first (reverse (in_digits b)) ≤ 18
    go true true k = let d = bounds 65 90 b k in rw k (omega arith)
    go false true k = let d = bounds 65 90 b k in rw k (omega arith)
    go true false k = let d = bounds 48 57 b (rw k at h) in rw k (omega arith)
    go false false k = let d = bounds 48 57 b (rw k at h) in rw k (omega arith)

-- A byte that a code may have, by its two numbers
pub record Its (b : Byte) : Type 0 where
  pub once : ℕ
  pub twice : ℕ
  pub is_mixed : mixed b ≡ true
  pub is_once : once ≡ counted false (reverse (in_digits b))
  pub is_twice : twice ≡ counted true (reverse (in_digits b))
  pub once_low : once ≤ 18
  pub twice_low : twice ≤ 18

-- A number that the table has for a byte of its own: not the highest, it is what the byte counts
pub its : (b : Byte) (more : ℕ) → between 48 90 b ≡ true → more ≡ get_or counts_table (b - 48) 0 → (more ≡ 65535 → ⊥)
    → (w : Its b) × (more ≡ w.once + 256 * w.twice)
its b more within told listed = go (mixed b) refl
  where
    is : more ≡ byte_counts b
    is = told ∙ (table_at b within).1

    go : (x : Bool) → mixed b ≡ x → (w : Its b) × (more ≡ w.once + 256 * w.twice)
    go false k = absurd (listed (is ∙ rw k))
    go true k = (
      record {
        once = counted false (reverse (in_digits b));
        twice = counted true (reverse (in_digits b));
        is_mixed = k;
        is_once = refl;
        is_twice = refl;
        once_low = count_low false b k;
        twice_low = count_low true b k;
      },
      is ∙ rw k,
    )

-- Bytes that no code has: those outside the table, and those for which it has the highest number
pub outside : (b : Byte) → between 48 90 b ≡ false → mixed b ≡ false
outside b h = go (mixed b) refl
  where
    go : (x : Bool) → mixed b ≡ x → mixed b ≡ false
    go true e = never (sym h ∙ mixed_within b e)
    go false e = e

pub unlisted : (b : Byte) (more : ℕ) → between 48 90 b ≡ true → more ≡ get_or counts_table (b - 48) 0 → more ≡ 65535 → mixed b ≡ false
unlisted b more within told e = go (mixed b) refl
  where
    go : (x : Bool) → mixed b ≡ x → mixed b ≡ false
    go false k = k
    go true k =
        let is : byte_counts b ≡ 65535 = sym (table_at b within).1 ∙ sym told ∙ e in
        let counts = rw k at is in
        absurd (omega (arith, counts, count_low false b k, count_low true b k))

-- A field that is not a code, by its size and by its first two bytes
pub code_unsized : (t : Text) → eqb (length t) 12 ≡ false → code_in t ≡ none
unfolding is_code has_code_form
code_unsized t h = rw h

pub code_unlettered : (t : Text) → eqb (length t) 12 ≡ true → every is_letter (take 2 t) ≡ false → code_in t ≡ none
unfolding is_code has_code_form
code_unlettered t h k = rw (h, k)

-- Behind two letters the rest of the form, and the digit, are what is left to judge
pub code_rest : (t : Text) → eqb (length t) 12 ≡ true → every is_letter (take 2 t) ≡ true → checked_in t ≡ code_in t
unfolding is_code has_code_form
code_rest t h k = rw (h, k, lettered t k)
  where
    lettered : (t : Text) → every is_letter (take 2 t) ≡ true → every mixed (take 11 t) ≡ every mixed (take 9 (drop 2 t))
    lettered [] k = refl
    lettered (b ∷ []) k = let e = every_cons is_letter b [] k in rw (every, e.0)
    lettered (b ∷ c ∷ r) k =
        let e = every_cons is_letter b (c ∷ []) k in
        let f = every_cons is_letter c [] e.1 in
        rw (every, e.0, f.0)

-- Twelve bytes read up to so many
pub record Read (t : Text) (n counts i : ℕ) : Type 0 where
  pub small : n < 43 ^ i
  pub once : counts % 256 ≤ 18 * i
  pub twice : counts / 256 ≤ 18 * i
  pub answer : checked_in t ≡ taken (11 - i) n (counts % 256) (counts / 256) (drop i t)

-- Both sums as a byte finds them: those of the digits before it, or the other way round
abbrev pub Moved : Byte → ℕ → ℕ → Type 0
Moved b counts moved =
    moved ≡ cond (is_letter b) (counts % 256) (counts / 256) + 256 * cond (is_letter b) (counts / 256) (counts % 256)

-- Two pairs of sums, each in one number, added
halves : (p q x y : ℕ) → p + x < 256 → (((p + 256 * q) + (x + 256 * y)) % 256 ≡ x + p) × (((p + 256 * q) + (x + 256 * y)) / 256 ≡ y + q)
halves p q x y h = (omega arith, omega arith)

-- The number so far, with a byte more, fits
pub room : (n i : ℕ) → n < 43 ^ i → i < 11 → 43 * n + 42 < 18446744073709551615
room n i small h =
    let most : 43 ^ i ≤ 43 ^ 10 = pow-le-pow_right (lit< tt) {i = i} {j = 10} (omega arith) in
    omega (arith, most)

module _ (t : Text) (twelve : length t ≡ 12) where
  -- Nothing read
  pub start : Read t 0 0 0
  start = record { small = lit< tt; once = omega arith; twice = omega arith; answer = taken_all t twelve }

  -- The bytes that are left, by the first of them
  step : (i : ℕ) (b : Byte) → i < 12 → b ≡ get_or t i 0 → drop i t ≡ b ∷ drop (i + 1) t
  step i b h e = drop_more t i 0 (omega arith) ∙ ap (λ (a : Byte). a ∷ drop (i + 1) t) (sym e)

  -- A byte that no code has
  pub stopped : (n counts i : ℕ) (b : Byte) → i < 11 → b ≡ get_or t i 0 → Read t n counts i → mixed b ≡ false → checked_in t ≡ none
  stopped n counts i b h e r other =
      let fewer : 11 - i ≡ suc (11 - (i + 1)) = omega arith in
      r.answer ∙ rw (fewer, step i b (omega arith) e, other)

  -- A byte more
  pub next : (n counts i : ℕ) (b : Byte) (moved : ℕ) → i < 11 → b ≡ get_or t i 0 → Read t n counts i → (w : Its b)
      → between 48 90 b ≡ true → Moved b counts moved
      → Read t (43 * n + (b - 48)) (moved + (w.once + 256 * w.twice)) (i + 1)
  next n counts i b moved h e r w within is_moved =
      let d = bounds 48 90 b within in
      let once = w.once in
      let twice = w.twice in
      let p = cond (is_letter b) (counts % 256) (counts / 256) in
      let q = cond (is_letter b) (counts / 256) (counts % 256) in
      let p_low : p ≤ 18 * i = either (is_letter b) r.once r.twice in
      let q_low : q ≤ 18 * i = either (is_letter b) r.twice r.once in
      let sums = halves p q once twice (omega (arith, p_low, w.once_low)) in
      let is : moved + (once + 256 * twice) ≡ (p + 256 * q) + (once + 256 * twice) = ap (λ (m : ℕ). m + (once + 256 * twice)) is_moved in
      let low : (moved + (once + 256 * twice)) % 256 ≡ once + p = ap (λ (m : ℕ). m % 256) is ∙ sums.0 in
      let high : (moved + (once + 256 * twice)) / 256 ≡ twice + q = ap (λ (m : ℕ). m / 256) is ∙ sums.1 in
      let fewer : 11 - i ≡ suc (11 - (i + 1)) = omega arith in
      record {
        small = rw (add-one i, pow-succ' 43 i) (omega (arith, r.small));
        once = rw low (omega (arith, p_low, w.once_low));
        twice = rw high (omega (arith, q_low, w.twice_low));
        answer =
            r.answer
            ∙ ap₂ (λ (k : ℕ) (u : Text). taken k n (counts % 256) (counts / 256) u) fewer (step i b (omega arith) e)
            ∙ ap (λ (x : Bool). cond x (taken (11 - (i + 1)) (43 * n + (b - 48)) (sum_with false b (counts % 256) (counts / 256)) (sum_with true b (counts % 256) (counts / 256)) (drop (i + 1) t)) none) w.is_mixed
            ∙ ap₂ (λ (x y : ℕ). taken (11 - (i + 1)) (43 * n + (b - 48)) x y (drop (i + 1) t))
            (ap (λ (x : ℕ). x + p) (sym w.is_once) ∙ sym low)
            (ap (λ (x : ℕ). x + q) (sym w.is_twice) ∙ sym high);
      }
    where
      either : (x : Bool) {u v k : ℕ} → u ≤ k → v ≤ k → cond x u v ≤ k
      either true f g = f
      either false f g = g

  -- The last byte: no digit, one that does not check the others, one that does
  pub ended : (n counts : ℕ) → Read t n counts 11
      → checked_in t ≡ when (is_digit (get_or t 11 0) && eqb ((counts / 256 + (get_or t 11 0 - 48)) % 10) 0) (10 * n + (get_or t 11 0 - 48))
  ended n counts r = r.answer ∙ rw (step 11 (get_or t 11 0) (lit< tt) refl)
