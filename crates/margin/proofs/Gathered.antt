-- Amounts summed by their keys: how many sums there are, how large they are, and one amount more. Said once, over the numbers.
use Prim.Native.Nat.{ℕ, zero, suc, ◌+◌, ◌*◌, ◌≤◌, ◌<◌}
use native.Mathlib.Omega.{arith}
use mathlib.Core.Bool.{Bool, true, false}
use mathlib.Core.List.{List, [], ◌∷◌, map}
use mathlib.Core.Path.{◌≡◌, refl, sym, ap, ap₂, ◌∙◌}
use borrow.Author.Tests.{eqb-true, eqb-false}
use lib.Dec.{eqb}
use lib.IntN.{ℤ, pos, ◌+ℤ◌}
use lib.ListN.{length, get_or, set, replicate, length-set, length-replicate, get_or-replicate}
use lib.Seq.{get_or-set_same, get_or-set_other}
use Rattle.paper.specs.Lists.{only, Each, nil, cons}
use Rattle.paper.specs.Signs.{signed_sum}
use Rattle.paper.proofs.Lists.{only_kept, only_left}
use Rattle.margin.specs.Sums.{gathered}

-- Where there is one thing only, it stands at each place
pub same_at : {N : Type 0} (x : N) (size k : ℕ) → get_or (replicate size x) k x ≡ x
same_at x zero k = refl
same_at x (suc size) zero = refl
same_at x (suc size) (suc k) = same_at x size k

-- What holds of an entry and of one that is stored holds of the entry afterwards
stored_at : {A : Type 0} (P : A → Type 0) (xs : List A) (i : ℕ) (x : A) (j : ℕ) (other : A) → P (get_or xs j other) → P x → P (get_or (set xs i x) j other)
stored_at P [] i x j other p q = p
stored_at P (a ∷ xs) zero x zero other p q = q
stored_at P (a ∷ xs) zero x (suc j) other p q = p
stored_at P (a ∷ xs) (suc i) x zero other p q = p
stored_at P (a ∷ xs) (suc i) x (suc j) other p q = stored_at P xs i x j other p q

module _ {A M N : Type 0} (plus : M → N → N) (none : N) (size : ℕ) (key : A → ℕ) (amount : A → M) where
  -- There are as many sums as the size says
  pub gathered_length : (xs : List A) → length (gathered plus none size key amount xs) ≡ size
  gathered_length [] = length-replicate size none
  gathered_length (a ∷ xs) =
      let sums = gathered plus none size key amount xs in
      length-set sums (key a) (plus (amount a) (get_or sums (key a) none)) ∙ gathered_length xs

  -- A sum of amounts is at most the largest times how many they are, in size
  pub gathered_most : (sized : N → ℕ) (weight : M → ℕ) → sized none ≡ 0 → ((m : M) (n : N) → sized (plus m n) ≤ weight m + sized n)
      → (most : ℕ) {xs : List A} → Each (λ a. weight (amount a) ≤ most) xs
      → (k : ℕ) → sized (get_or (gathered plus none size key amount xs) k none) ≤ length xs * most
  gathered_most sized weight empty more most nil k = omega (arith, ap sized (same_at none size k))
  gathered_most sized weight empty more most (cons {a} {rest = xs} small rest) k =
      let sums = gathered plus none size key amount xs in
      let there = gathered_most sized weight empty more most rest k in
      let own = gathered_most sized weight empty more most rest (key a) in
      stored_at (λ (n : N). sized n ≤ suc (length xs) * most) sums (key a) (plus (amount a) (get_or sums (key a) none)) k none
      (omega arith)
      (omega (arith, more (amount a) (get_or sums (key a) none)))

  -- An amount more: the sum of its key grows by it
  pub gathered_more : (a : A) {xs all : List A} {sums : List N} {m : M} → sums ≡ gathered plus none size key amount xs → m ≡ amount a → all ≡ a ∷ xs
      → set sums (key a) (plus m (get_or sums (key a) none)) ≡ gathered plus none size key amount all
  gathered_more a e is front =
      ap₂ (λ (l : List N) (m : M). set l (key a) (plus m (get_or l (key a) none))) e is ∙ sym (ap (gathered plus none size key amount) front)

  -- At the place of its key its amount is added, and at any other nothing changes
  pub gathered_own : (a : A) (xs : List A) (k : ℕ) → k < size → key a ≡ k
      → get_or (gathered plus none size key amount (a ∷ xs)) k none ≡ plus (amount a) (get_or (gathered plus none size key amount xs) k none)
  gathered_own a xs k low same =
      let sums = gathered plus none size key amount xs in
      rw same (get_or-set_same sums k (plus (amount a) (get_or sums k none)) none (omega (arith, gathered_length xs)))

  pub gathered_other : (a : A) (xs : List A) (k : ℕ) → (key a ≡ k → ⊥)
      → get_or (gathered plus none size key amount (a ∷ xs)) k none ≡ get_or (gathered plus none size key amount xs) k none
  gathered_other a xs k other =
      let sums = gathered plus none size key amount xs in
      get_or-set_other sums (key a) k (plus (amount a) (get_or sums (key a) none)) none (λ same. other (sym same))

-- ---- what stands at a place

-- The sum of the amounts of those that pass a test, of one unit
abbrev pub sum_of : {A : Type 0} → (A → Bool) → (A → ℤ) → List A → ℤ
sum_of test amount xs = signed_sum (map amount (only test xs))

module _ {A : Type 0} (test : A → Bool) (amount : A → ℤ) (x : A) (xs : List A) where
  -- One that passes adds its amount, and another adds nothing
  pub sum_kept : test x ≡ true → sum_of test amount (x ∷ xs) ≡ amount x +ℤ sum_of test amount xs
  sum_kept e = ap (λ (l : List A). signed_sum (map amount l)) (only_kept test x xs e)

  pub sum_left : test x ≡ false → sum_of test amount (x ∷ xs) ≡ sum_of test amount xs
  sum_left e = ap (λ (l : List A). signed_sum (map amount l)) (only_left test x xs e)

module _ {A : Type 0} (size : ℕ) (key : A → ℕ) (amount : A → ℤ) (k : ℕ) (low : k < size) where
  -- It is the sum of the amounts whose key the place is
  pub gathered_at : (xs : List A)
      → get_or (gathered ◌+ℤ◌ (pos 0) size key amount xs) k (pos 0) ≡ sum_of (λ a. eqb (key a) k) amount xs
  gathered_at [] = get_or-replicate size k (pos 0) (pos 0) low
  gathered_at (a ∷ xs) = go (eqb (key a) k) refl (gathered_at xs)
    where
      own : A → Bool
      own a = eqb (key a) k

      go : (b : Bool) → own a ≡ b → get_or (gathered ◌+ℤ◌ (pos 0) size key amount xs) k (pos 0) ≡ sum_of own amount xs
          → get_or (gathered ◌+ℤ◌ (pos 0) size key amount (a ∷ xs)) k (pos 0) ≡ sum_of own amount (a ∷ xs)
      go true e rest =
          gathered_own ◌+ℤ◌ (pos 0) size key amount a xs k low (eqb-true (key a) k e)
          ∙ ap (λ (z : ℤ). amount a +ℤ z) rest
          ∙ sym (sum_kept own amount a xs e)
      go false e rest =
          gathered_other ◌+ℤ◌ (pos 0) size key amount a xs k (eqb-false (key a) k e) ∙ rest ∙ sym (sum_left own amount a xs e)
