-- A loop over rows from the last to the first: a table that it fills, and what stands behind a row.
use Prim.Native.Nat.{ℕ, zero, suc, ◌+◌, ◌-◌, ◌≤◌, ◌<◌}
use native.Mathlib.Omega.{arith}
use mathlib.Core.List.{List, [], ◌∷◌, ◌++◌, map, append_assoc}
use mathlib.Core.Path.{◌≡◌, sym, ap, ◌∙◌}
use lib.ListN.{length, get_or, drop, set, replicate, length-map, length-replicate, replicate-append-replicate}
use lib.Seq.{drop-cons, drop-length, set-append_seam}
use Rattle.paper.specs.Lists.{Each, nil, cons}
use Rattle.paper.proofs.Lists.{made_at}
use Rattle.tables.specs.Padded.{padded}
use Rattle.tables.proofs.Padded.{padded_parts}

module _ {A : Type 0} where
  -- The rows from one before, where there is one
  pub drop_before : (xs : List A) (i : ℕ) (other : A) → 0 < i → i ≤ length xs → drop (i - 1) xs ≡ get_or xs (i - 1) other ∷ drop i xs
  drop_before xs i other low high =
      let behind : suc (i - 1) ≡ i = omega arith in
      drop-cons xs (i - 1) other (omega arith) ∙ ap (λ (n : ℕ). get_or xs (i - 1) other ∷ drop n xs) behind

  -- A table of a fixed size that is filled from a row on
  abbrev pub filled_from : ℕ → A → List A → ℕ → List A
  filled_from most none hs i = replicate i none ++ (drop i hs ++ replicate (most - length hs) none)

  module _ (most : ℕ) (none : A) (hs : List A) (few : length hs ≤ most) where
    -- At first it is empty
    filled_none : (i : ℕ) → i ≡ length hs → replicate most none ≡ filled_from most none hs i
    filled_none i e =
        let size : most ≡ i + (most - length hs) = omega arith in
        ap (λ (n : ℕ). replicate n none) size
        ∙ sym (replicate-append-replicate i (most - length hs) none)
        ∙ ap (λ (l : List A). replicate i none ++ (l ++ replicate (most - length hs) none)) (sym (drop-length hs) ∙ ap (λ (n : ℕ). drop n hs) (sym e))

    -- A row more
    filled_more : (i : ℕ) (h : A) → 0 < i → i ≤ length hs → h ≡ get_or hs (i - 1) none
        → set (filled_from most none hs i) (i - 1) h ≡ filled_from most none hs (i - 1)
    filled_more i h low high e =
        let before = replicate (i - 1) none in
        let rest = replicate (most - length hs) none in
        let one : i ≡ (i - 1) + 1 = omega arith in
        let split : replicate i none ≡ before ++ (none ∷ []) =
        ap (λ (n : ℕ). replicate n none) one ∙ sym (replicate-append-replicate (i - 1) 1 none)
        in
        let size : i - 1 ≡ length before = sym (length-replicate (i - 1) none) in
        ap (λ (l : List A). set (l ++ (drop i hs ++ rest)) (i - 1) h) split
        ∙ ap (λ (l : List A). set l (i - 1) h) (append_assoc before (none ∷ []) (drop i hs ++ rest))
        ∙ ap (λ (n : ℕ). set (before ++ (none ∷ (drop i hs ++ rest))) n h) size
        ∙ set-append_seam before none (drop i hs ++ rest) h
        ∙ ap (λ (x : A). before ++ (x ∷ (drop i hs ++ rest))) e
        ∙ ap (λ (l : List A). before ++ (l ++ rest)) (sym (drop_before hs i none low high))

    -- At last it is the whole table
    filled_all : (i : ℕ) → i ≡ 0 → filled_from most none hs i ≡ padded most none hs
    filled_all i e =
        ap (filled_from most none hs) e ∙ sym (padded_parts most (most - length hs) most none hs (omega arith) (omega arith))

-- What holds of each row holds of each from one on
pub each_drop : {A : Type 0} {P : A → Type 0} (i : ℕ) {xs : List A} → Each P xs → Each P (drop i xs)
each_drop zero each = each
each_drop (suc i) nil = nil
each_drop (suc i) (cons p rest) = each_drop i rest

-- A table of what is made of rows, filled from the last to the first
module _ {R A : Type 0} (make : R → A) (rows : List R) (other : R) (most : ℕ) (none : A) (few : length rows ≤ most) where
  many : length (map make rows) ≡ length rows
  many = length-map rows make

  -- At first it is empty, a turn fills one more, and at last it is whole
  pub made_none : replicate most none ≡ filled_from most none (map make rows) (length rows)
  made_none = filled_none most none (map make rows) (omega (arith, many)) (length rows) (sym many)

  pub made_more : (i : ℕ) (t : List A) (a : A) → t ≡ filled_from most none (map make rows) i → 0 < i → i ≤ length rows → a ≡ make (get_or rows (i - 1) other)
      → set t (i - 1) a ≡ filled_from most none (map make rows) (i - 1)
  made_more i t a e low high is =
      ap (λ (l : List A). set l (i - 1) a) e
      ∙ filled_more most none (map make rows) (omega (arith, many)) i a low (omega (arith, many))
      (is ∙ sym (made_at make rows (i - 1) none other (omega arith)))

  pub made_all : (i : ℕ) → i ≡ 0 → filled_from most none (map make rows) i ≡ padded most none (map make rows)
  made_all i e = filled_all most none (map make rows) (omega (arith, many)) i e
