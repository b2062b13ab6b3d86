-- What stands in a column of a fixed size: the entries in front, at their places; and what is true at every place.
use Prim.Native.Nat.{ℕ, zero, suc, ◌≤◌}
use native.Mathlib.Omega.{arith}
use mathlib.Core.List.{List, [], ◌∷◌, ◌++◌, map}
use mathlib.Core.Path.{◌≡◌, sym, ap, ◌∙◌}
use lib.ListN.{length, get_or, take, replicate, length-map}
use Rattle.std.proofs.lemmas.List.{get_or-take}
use Rattle.paper.specs.Lists.{Each, nil, cons}
use Rattle.tables.specs.Padded.{padded}
use Rattle.tables.proofs.Padded.{padded_front}
use Rattle.tables.proofs.Places.{Stands, stands_low, stands_made}

-- What is made of an entry stands at its place
pub stands_held : {A H : Type 0} (most : ℕ) (none : H) (make : A → H) {x : A} {xs : List A} {k : ℕ} → length xs ≤ most → Stands x xs k → (other : H)
    → get_or (padded most none (map make xs)) k other ≡ make x
stands_held {H = H} most none make {xs = xs} {k} few at other =
    let size = length-map xs make in
    let hs = map make xs in
    sym (get_or-take (length hs) (padded most none hs) k other (omega (arith, size, stands_low at)))
    ∙ ap (λ (l : List H). get_or l k other) (padded_front most none hs (omega (arith, size, few)))
    ∙ stands_made make other at

module _ {A : Type 0} (P : A → Type 0) where
  -- What is true at every place of a list and past it is true at every place of its front
  front_any : (n : ℕ) (l : List A) (other : A) → P other → ((i : ℕ) → P (get_or l i other)) → (i : ℕ) → P (get_or (take n l) i other)
  front_any zero l other past each i = past
  front_any (suc n) [] other past each i = past
  front_any (suc n) (a ∷ l) other past each zero = each 0
  front_any (suc n) (a ∷ l) other past each (suc i) = front_any n l other past (λ j. each (suc j)) i

  -- ... and of what stands for none, so many times, behind entries of which it is true
  free_any : {none : A} {hs : List A} → Each P hs → P none → (free : ℕ) (other : A) → P other → (i : ℕ) → P (get_or (hs ++ replicate free none) i other)
  free_any nil p zero other past i = past
  free_any nil p (suc free) other past zero = p
  free_any nil p (suc free) other past (suc i) = free_any nil p free other past i
  free_any (cons q qs) p free other past zero = q
  free_any (cons q qs) p free other past (suc i) = free_any qs p free other past i

  -- So what is true of each entry and of what stands for none is true at every place of their column
  pub padded_any : (most : ℕ) {none : A} {hs : List A} → Each P hs → P none → (other : A) → P other → (i : ℕ) → P (get_or (padded most none hs) i other)
  padded_any most {none} {hs} each p other past = front_any most (hs ++ replicate most none) other past (free_any each p most other past)
