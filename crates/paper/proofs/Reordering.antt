-- Lists in another order, over any elements and steps: which elements may be swapped, and what runs over the list then give.
use Prim.Native.Nat.{suc}
use mathlib.Core.Bool.{Bool, true, false, true≢false}
use mathlib.Core.List.{List, [], ◌∷◌, ◌++◌, head-eq_of_cons-eq, tail-eq_of_cons-eq, cons≢nil, nil≢cons}
use mathlib.Core.Path.{◌≡◌, refl, sym, ap, ◌∙◌, subst}
use native.Mathlib.Nat.{add-suc}
use lib.ListN.{length, length-append}
use Rattle.paper.specs.Lists.{every, only, Each, nil, cons}
use Rattle.paper.proofs.Lists.{each_first, each_rest, every_cons, only_kept, only_left, only_append, only_none}

-- One step after another, each from what the one before left
abbrev pub in_turn : {A S : Type 0} → (A → S → S) → List A → S → S
in_turn step [] s = s
in_turn step (a ∷ rest) s = in_turn step rest (step a s)

module _ {A : Type 0} (Swap : A → A → Type 0) where
  -- A list in another order: its first entry stands behind entries that it may be swapped with, and so on with the rest
  pub data Reordered : List A → List A → Type 0 where
    done : Reordered [] []
    moved : {x : A} {xs : List A} (front back : List A) → Each (Swap x) front → Reordered xs (front ++ back)
        → Reordered (x ∷ xs) (front ++ (x ∷ back))

  -- Where the steps of entries that may be swapped commute, all steps in turn give the same in either order
  module _ {S : Type 0} (step : A → S → S) (commute : (a b : A) → Swap a b → (s : S) → step b (step a s) ≡ step a (step b s)) where
    past : (x : A) (front back : List A) → Each (Swap x) front → (s : S)
        → in_turn step (front ++ back) (step x s) ≡ in_turn step (front ++ (x ∷ back)) s
    past x [] back swaps s = refl
    past x (f ∷ front) back swaps s =
        ap (in_turn step (front ++ back)) (commute x f (each_first swaps) s)
        ∙ past x front back (each_rest swaps) (step f s)

    pub same_in_turn : {xs ys : List A} → Reordered xs ys → (s : S) → in_turn step xs s ≡ in_turn step ys s
    same_in_turn done s = refl
    same_in_turn (moved {x} front back swaps r) s = same_in_turn r (step x s) ∙ past x front back swaps s

  -- It is as long
  pub same_length : {xs ys : List A} → Reordered xs ys → length xs ≡ length ys
  same_length done = refl
  same_length (moved {x} front back swaps r) =
      ap suc (same_length r ∙ length-append front back) ∙ sym (length-append front (x ∷ back) ∙ add-suc _ _)

  -- Whatever all entries pass is passed by all
  pub same_every : (test : A → Bool) {xs ys : List A} → Reordered xs ys → every test xs ≡ true → every test ys ≡ true
  same_every test done e = refl
  same_every test (moved {x} {xs} front back swaps r) e =
      let both = every_cons test x xs e in
      between front both.0 (same_every test r both.1)
    where
      between : (front : List A) → test x ≡ true → every test (front ++ back) ≡ true → every test (front ++ (x ∷ back)) ≡ true
      between [] t e = rw (t, every) e
      between (f ∷ front) t e =
          let both = every_cons test f (front ++ back) e in
          rw (both.0, every) (between front t both.1)

-- Entries that name keys. Two are apart that name no key in common
module _ {A K : Type 0} (names : K → A → Bool) where
  abbrev pub Apart : A → A → Type 0
  Apart a b = (k : K) → names k a ≡ true → names k b ≡ false

  -- The first entry that names a key, with those before it, which do not
  first_naming : (k : K) (x : A) (rest ys : List A) → x ∷ rest ≡ only (names k) ys
      → (front : List A) × (back : List A) × (ys ≡ front ++ (x ∷ back)) × Each (λ f. names k f ≡ false) front
  first_naming k x rest [] e = absurd (cons≢nil e)
  first_naming k x rest (y ∷ ys) e = go (names k y) refl (first_naming k x rest ys)
    where
      go : (b : Bool) → names k y ≡ b
          → (x ∷ rest ≡ only (names k) ys
          → (front : List A) × (back : List A) × (ys ≡ front ++ (x ∷ back)) × Each (λ f. names k f ≡ false) front)
          → (front : List A) × (back : List A) × (y ∷ ys ≡ front ++ (x ∷ back)) × Each (λ f. names k f ≡ false) front
      go true t later =
          ([], ys, ap (λ (a : A). a ∷ ys) (sym (head-eq_of_cons-eq (e ∙ only_kept (names k) y ys t))), nil)
      go false t later =
          let (front, back, split, each) = later (e ∙ only_left (names k) y ys t) in
          (y ∷ front, back, ap (λ (l : List A). y ∷ l) split, cons t each)

  -- Entries before the first one that names a key and do not name it: none names another key that it is the first to name
  none_before : (k j : K) (x : A) → names k x ≡ true → (front back rest : List A) → Each (λ f. names k f ≡ false) front
      → x ∷ rest ≡ only (names j) (front ++ back) → Each (λ f. names j f ≡ false) front
  none_before k j x t [] back rest each e = nil
  none_before k j x t (f ∷ front) back rest each e =
      go (names j f) refl (λ later. none_before k j x t front back rest (each_rest each) later)
    where
      go : (b : Bool) → names j f ≡ b
          → (x ∷ rest ≡ only (names j) (front ++ back) → Each (λ f. names j f ≡ false) front)
          → Each (λ f. names j f ≡ false) (f ∷ front)
      go true u later =
          let one : x ≡ f = head-eq_of_cons-eq (e ∙ only_kept (names j) f (front ++ back) u) in
          absurd (true≢false (sym t ∙ ap (names k) one ∙ each_first each))
      go false u later = cons u (later (e ∙ only_left (names j) f (front ++ back) u))

  -- For every key none before: each of those is apart
  all_apart : (x : A) (front : List A) → ((j : K) → names j x ≡ true → Each (λ f. names j f ≡ false) front)
      → Each (Apart x) front
  all_apart x [] each = nil
  all_apart x (f ∷ front) each =
      cons (λ j t. each_first (each j t)) (all_apart x front (λ j t. each_rest (each j t)))

  -- Without that entry, the entries that name a key are the same as before
  without : (j : K) (x : A) (xs front back : List A) → (names j x ≡ true → Each (λ f. names j f ≡ false) front)
      → only (names j) (x ∷ xs) ≡ only (names j) (front ++ (x ∷ back))
      → only (names j) xs ≡ only (names j) (front ++ back)
  without j x xs front back none e = go (names j x) refl
    where
      whole : only (names j) (x ∷ xs) ≡ only (names j) front ++ only (names j) (x ∷ back)
      whole = e ∙ only_append (names j) front (x ∷ back)

      go : (b : Bool) → names j x ≡ b → only (names j) xs ≡ only (names j) (front ++ back)
      go true t =
          let empty : only (names j) front ≡ [] = only_none (names j) front (none t) in
          let kept : x ∷ only (names j) xs ≡ x ∷ only (names j) back =
          sym (only_kept (names j) x xs t) ∙ whole
          ∙ ap (λ (l : List A). l ++ only (names j) (x ∷ back)) empty
          ∙ only_kept (names j) x back t
          in
          tail-eq_of_cons-eq kept
          ∙ sym (only_append (names j) front back ∙ ap (λ (l : List A). l ++ only (names j) back) empty)
      go false t =
          sym (only_left (names j) x xs t) ∙ whole
          ∙ ap (λ (l : List A). only (names j) front ++ l) (only_left (names j) x back t)
          ∙ sym (only_append (names j) front back)

  -- Two lists in which each key is named by the same entries in the same order, where each entry names some key:
  -- one is the other in another order, entries being swapped that are apart
  pub same_naming : ((a : A) → (k : K) × (names k a ≡ true)) → (xs ys : List A)
      → ((k : K) → only (names k) xs ≡ only (names k) ys) → Reordered Apart xs ys
  same_naming some [] [] e = done
  same_naming some [] (y ∷ ys) e =
      let (k, t) = some y in absurd (nil≢cons (e k ∙ only_kept (names k) y ys t))
  same_naming some (x ∷ xs) ys e =
      let (k, t) = some x in
      let (front, back, split, each) = first_naming k x (only (names k) xs) ys (sym (only_kept (names k) x xs t) ∙ e k) in
      let meets : (j : K) → only (names j) (x ∷ xs) ≡ only (names j) (front ++ (x ∷ back)) = λ j. e j ∙ ap (only (names j)) split in
      let none : (j : K) → names j x ≡ true → Each (λ f. names j f ≡ false) front =
      λ j u. none_before k j x t front (x ∷ back) (only (names j) xs) each (sym (only_kept (names j) x xs u) ∙ meets j)
      in
      subst (Reordered Apart (x ∷ xs)) (sym split)
      (moved front back (all_apart x front none)
      (same_naming some xs (front ++ back) (λ j. without j x xs front back (none j) (meets j))))
