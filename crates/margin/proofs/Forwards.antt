-- Something for each rank: as a list, and as a vector that is filled from the first rank to the last.
use Prim.Native.Nat.{ℕ, zero, suc, ◌+◌, ◌-◌, ◌≤◌, ◌<◌}
use native.Mathlib.Numerals.{add-one}
use native.Mathlib.Omega.{arith}
use mathlib.Core.List.{List, [], ◌∷◌, ◌++◌, map}
use mathlib.Core.Path.{◌≡◌, refl, sym, ap, ap₂, ◌∙◌}
use lib.ListN.{length}
use lib.Seq.{take_at}
use Rattle.paper.specs.Lists.{Each, nil, cons}
use Rattle.tables.specs.Padded.{padded}
use Rattle.tables.proofs.Places.{Stands, here, there}
use Rattle.margin.specs.Openings.{from_rank}

module _ {A : Type 0} (make : ℕ → A) where
  -- As many as are asked for
  pub ranks_many : (many rank : ℕ) → length (from_rank make many rank) ≡ many
  ranks_many zero rank = refl
  ranks_many (suc many) rank = ap suc (ranks_many many (suc rank))

  -- One more stands at the end
  pub ranks_more : (many rank : ℕ) → from_rank make (suc many) rank ≡ from_rank make many rank ++ (make (rank + many) ∷ [])
  ranks_more zero rank = let same : rank ≡ rank + 0 = omega arith in ap (λ (n : ℕ). make n ∷ []) same
  ranks_more (suc many) rank =
      let behind : suc rank + many ≡ rank + suc many = omega arith in
      ap (λ (l : List A). make rank ∷ l) (ranks_more many (suc rank) ∙ ap (λ (n : ℕ). from_rank make many (suc rank) ++ (make n ∷ [])) behind)

  -- ... and one before stands in front
  pub ranks_before : (count i : ℕ) → 0 < i → i ≤ count → from_rank make (count - (i - 1)) (i - 1) ≡ make (i - 1) ∷ from_rank make (count - i) i
  ranks_before count i low high =
      let more : count - (i - 1) ≡ suc (count - i) = omega arith in
      let behind : suc (i - 1) ≡ i = omega arith in
      ap (λ (many : ℕ). from_rank make many (i - 1)) more ∙ ap (λ (n : ℕ). make (i - 1) ∷ from_rank make (count - i) n) behind

  -- What is true of whatever is made is true of each
  pub ranks_each : {P : A → Type 0} → ((k : ℕ) → P (make k)) → (many rank : ℕ) → Each P (from_rank make many rank)
  ranks_each p zero rank = nil
  ranks_each p (suc many) rank = cons (p rank) (ranks_each p many (suc rank))

  -- What is made for each place of a list is what is made of the entry there
  made_from_lem : {B : Type 0} (f : B → A) (xs : List B) (from : ℕ) → ((k : ℕ) (x : B) → Stands x xs k → make (from + k) ≡ f x)
      → from_rank make (length xs) from ≡ map f xs
  made_from_lem f [] from same = refl
  made_from_lem f (x ∷ xs) from same =
      let first : from + 0 ≡ from = omega arith in
      ap₂ (λ (a : A) (l : List A). a ∷ l) (rw first at (same 0 x here))
      (made_from_lem f xs (suc from) (λ k y at. let next : from + suc k ≡ suc from + k = omega arith in rw next at (same (suc k) y (there at))))

  pub ranks_made : {B : Type 0} (f : B → A) (xs : List B) → ((k : ℕ) (x : B) → Stands x xs k → make k ≡ f x) → from_rank make (length xs) 0 ≡ map f xs
  ranks_made f xs same = made_from_lem f xs 0 (λ k x at. let start : 0 + k ≡ k = omega arith in rw start (same k x at))

  -- A turn of a loop by rising rank
  pub ranks_pushed : (rank : ℕ) {hs : List A} {a : A} → hs ≡ from_rank make rank 0 → a ≡ make rank → hs ++ (a ∷ []) ≡ from_rank make (rank + 1) 0
  ranks_pushed rank e is =
      let same : 0 + rank ≡ rank = omega arith in
      ap₂ (λ (l : List A) (b : A). l ++ (b ∷ [])) e (is ∙ ap make (sym same)) ∙ sym (ranks_more rank 0)
      ∙ ap (λ (n : ℕ). from_rank make n 0) (sym (add-one rank))

  -- ... and all of them: a column filled to its last place
  module _ (most : ℕ) (none : A) where
    pub ranks_all : (rank : ℕ) → rank ≡ most → padded most none (from_rank make rank 0) ≡ from_rank make most 0
    ranks_all rank all = rw all (take_at (from_rank make most 0) _ most (ranks_many most 0))
