-- `tables::ranked` meets its contract. The loop's invariant: the currencies before `rank` come before the one looked for, and
-- either all so far do, or the one at `rank` does not.
use Prim.Native.Nat.{ℕ, zero, suc, ◌≤◌, ◌<◌}
use native.Mathlib.Omega.{arith}
use mathlib.Core.List.{List, [], ◌∷◌}
use mathlib.Core.Path.{◌≡◌, refl, sym, ap}
use borrow.Author.Tests.{eq-eqb, ne_eqb, lt-ltb, le-ltb}
use lib.ListN.{length, get_or}
use Rattle.std.specs.Prelude.{Ok, Err}
use Rattle.tables.specs.Ranks.{one_further, ranked_of}
use Rattle.tables.proofs.ranked.Given as goal

module _ (own : ℕ) where
  -- Behind those that are below it, where the one there is it
  stands : (ns : List ℕ) (rank : ℕ) → ((k : ℕ) → k < rank → get_or ns k 0 < own) → rank < length ns → get_or ns rank 0 ≡ own → ranked_of ns own ≡ Ok rank
  stands [] rank below h e = absurd (omega arith)
  stands (n ∷ ns) zero below h e = rw (eq-eqb n own e, ranked_of)
  stands (n ∷ ns) (suc rank) below h e =
      let first : n < own = below 0 (omega arith) in
      rw (ne_eqb n own (λ e. omega arith), lt-ltb n own first, ranked_of)
      (ap one_further (stands ns rank (λ k l. below (suc k) (omega arith)) (omega arith) e))

  -- ... and where it would stand: before one that is above it, or behind all
  would : (ns : List ℕ) (rank : ℕ) → ((k : ℕ) → k < rank → get_or ns k 0 < own) → rank ≤ length ns → (rank < length ns → own < get_or ns rank 0)
      → ranked_of ns own ≡ Err rank
  would [] zero below h up = refl
  would [] (suc rank) below h up = absurd (omega arith)
  would (n ∷ ns) zero below h up =
      let first : own < n = up (omega arith) in
      rw (ne_eqb n own (λ e. omega arith), le-ltb n own (omega arith), ranked_of)
  would (n ∷ ns) (suc rank) below h up =
      let first : n < own = below 0 (omega arith) in
      rw (ne_eqb n own (λ e. omega arith), lt-ltb n own first, ranked_of)
      (ap one_further (would ns rank (λ k l. below (suc k) (omega arith)) (omega arith) (λ l. up (omega arith))))

module _ (ns : List ℕ) (own : ℕ) where
  -- All so far are below it, or the one at the rank is not
  pub data Course (rank more i : ℕ) : Type 0 where
    goes : more ≡ 1 → rank ≡ i → Course rank more i
    passed : more ≡ 0 → (rank < length ns → own ≤ get_or ns rank 0) → Course rank more i

  -- A rank found so far: those before it are below
  pub record Ranked (rank more i : ℕ) : Type 0 where
    pub low : rank ≤ i
    pub below : (k : ℕ) → k < rank → get_or ns k 0 < own
    pub course : Course rank more i

  module _ {rank more i : ℕ} (r : Ranked rank more i) (all : i ≡ length ns) where
    -- After the last turn
    last : rank < length ns → own ≤ get_or ns rank 0
    last l = go r.course
      where
        go : Course rank more i → own ≤ get_or ns rank 0
        go (goes m e) = absurd (omega arith)
        go (passed m ends) = ends l

    -- It stands at its rank, or would
    pub ranked_there : rank < length ns → get_or ns rank 0 ≡ own → Ok rank ≡ ranked_of ns own
    ranked_there l e = sym (stands own ns rank r.below l e)

    pub ranked_new : (rank < length ns → get_or ns rank 0 ≡ own → ⊥) → Err rank ≡ ranked_of ns own
    ranked_new other = sym (would own ns rank r.below (omega (arith, r.low)) (λ l. omega (arith, last l, other l)))

abbrev pub invariant-loop-number : goal.invariant-loop-number
invariant-loop-number l = Ranked l.numbers l.own l.rank l.more l.number-index
