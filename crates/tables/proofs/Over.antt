-- A list written over entry by entry, as a loop does it.
use Prim.Native.Nat.{ℕ, zero, suc, ◌<◌}
use native.Mathlib.Omega.{arith}
use mathlib.Core.List.{List, [], ◌∷◌, map}
use mathlib.Core.Path.{◌≡◌, refl, ap}
use lib.ListN.{length, get_or, take, set}
use Rattle.tables.specs.Over.{over}

module _ {A B : Type 0} where
  -- One entry more
  pub over_more : (make : A → B → B) (xs : List A) (bs : List B) (i : ℕ) (d : A) (e : B) → i < length xs → i < length bs
      → set (over make (take i xs) bs) i (make (get_or xs i d) (get_or (over make (take i xs) bs) i e)) ≡ over make (take (suc i) xs) bs
  over_more make [] bs i d e h k = absurd (omega arith)
  over_more make (x ∷ xs) [] i d e h k = absurd (omega arith)
  over_more make (x ∷ xs) (b ∷ bs) zero d e h k = refl
  over_more make (x ∷ xs) (b ∷ bs) (suc i) d e h k = ap (λ (l : List B). make x b ∷ l) (over_more make xs bs i d e (omega arith) (omega arith))

  -- All of them, where what stood there does not matter
  pub over_all : (make : A → B) (xs : List A) (bs : List B) → length xs ≡ length bs → over (λ x b. make x) xs bs ≡ map make xs
  over_all make [] [] e = refl
  over_all make [] (b ∷ bs) e = absurd (omega arith)
  over_all make (x ∷ xs) [] e = absurd (omega arith)
  over_all make (x ∷ xs) (b ∷ bs) e = ap (λ (l : List B). make x ∷ l) (over_all make xs bs (omega arith))
