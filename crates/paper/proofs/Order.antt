-- Texts compared by bytes: `same` is equality, and `before` a strict order in which any two texts can be compared.
use Prim.Native.Nat.{◌<◌}
use native.Mathlib.Nat.{lt_trans}
use native.Mathlib.Omega.{arith}
use mathlib.Core.Bool.{Bool, true, false, true≢false}
use mathlib.Core.List.{[], ◌∷◌}
use mathlib.Core.Logic.{◌≢◌}
use mathlib.Core.Path.{◌≡◌, refl, sym, ap, ap₂, ◌∙◌, subst}
use borrow.Author.Tests.{eqb-true, eqb-false, eq-eqb, ne_eqb, ltb-true, ltb-false, lt-ltb}
use lib.Dec.{eqb, ltb}
use Rattle.paper.specs.Units.{Byte, Text}
use Rattle.paper.specs.Text.{same, before}
use Rattle.paper.proofs.Lists.{never}

-- What is the same is equal
pub same_true : (s t : Text) → same s t ≡ true → s ≡ t
same_true [] [] e = refl
same_true [] (c ∷ t) e = never e
same_true (b ∷ s) [] e = never e
same_true (b ∷ s) (c ∷ t) e = go (eqb b c) refl (same_true s t)
  where
    go : (x : Bool) → eqb b c ≡ x → (same s t ≡ true → s ≡ t) → b ∷ s ≡ c ∷ t
    go true k rest = ap₂ (λ (h : Byte) (l : Text). h ∷ l) (eqb-true b c k) (rest (rw (k, same) at e))
    go false k rest = never (rw (k, same) at e)

-- A text is the same as itself
pub same_refl : (t : Text) → same t t ≡ true
same_refl [] = refl
same_refl (b ∷ t) = rw (eq-eqb b b refl, same) (same_refl t)

-- How the first bytes decide
before_equal : (b c : Byte) (s t : Text) → b ≡ c → before (b ∷ s) (c ∷ t) ≡ before s t
before_equal b c s t e = rw (eq-eqb b c e, before)

before_other : (b c : Byte) (s t : Text) → eqb b c ≡ false → before (b ∷ s) (c ∷ t) ≡ ltb b c
before_other b c s t e = rw (e, before)

before_less : (b c : Byte) (s t : Text) → b < c → before (b ∷ s) (c ∷ t) ≡ true
before_less b c s t h = before_other b c s t (ne_eqb b c (λ e. omega arith)) ∙ lt-ltb b c h

-- A text that comes before another: the first bytes are equal and the rest comes before, or the first byte is below
data Before : Text → Text → Type 0 where
  shorter : {c : Byte} {t : Text} → Before [] (c ∷ t)
  lower : {b c : Byte} {s t : Text} → b < c → Before (b ∷ s) (c ∷ t)
  later : {b : Byte} {s t : Text} → Before s t → Before (b ∷ s) (b ∷ t)

comes : (s t : Text) → before s t ≡ true → Before s t
comes [] [] e = never e
comes [] (c ∷ t) e = shorter
comes (b ∷ s) [] e = never e
comes (b ∷ s) (c ∷ t) e = go (eqb b c) refl (comes s t)
  where
    go : (x : Bool) → eqb b c ≡ x → (before s t ≡ true → Before s t) → Before (b ∷ s) (c ∷ t)
    go true k rest =
        let one : b ≡ c = eqb-true b c k in
        subst (λ (d : Byte). Before (b ∷ s) (d ∷ t)) one (later (rest (sym (before_equal b c s t one) ∙ e)))
    go false k rest = lower (ltb-true b c (sym (before_other b c s t k) ∙ e))

came : {s t : Text} → Before s t → before s t ≡ true
came shorter = refl
came (lower {b} {c} {s} {t} h) = before_less b c s t h
came (later {b} {s} {t} r) = before_equal b b s t refl ∙ came r

-- Before is a strict order
chain : {s t u : Text} → Before s t → Before t u → Before s u
chain shorter (lower h) = shorter
chain shorter (later r) = shorter
chain (lower h) (lower k) = lower (lt_trans h k)
chain (lower h) (later r) = lower h
chain (later r) (lower h) = lower h
chain (later r) (later q) = later (chain r q)

pub before_trans : (s t u : Text) → before s t ≡ true → before t u ≡ true → before s u ≡ true
before_trans s t u p q = came (chain (comes s t p) (comes t u q))

-- No text comes before itself
pub before_self : (t : Text) → before t t ≡ false
before_self [] = refl
before_self (b ∷ t) = before_equal b b t t refl ∙ before_self t

-- Of two texts one comes first, or they are equal
pub data Compared (s t : Text) : Type 0 where
  first : before s t ≡ true → Compared s t
  equal : s ≡ t → Compared s t
  second : before t s ≡ true → Compared s t

pub compared : (s t : Text) → Compared s t
compared [] [] = equal refl
compared [] (c ∷ t) = first refl
compared (b ∷ s) [] = second refl
compared (b ∷ s) (c ∷ t) = by_first (eqb b c) refl (ltb b c) refl (compared s t)
  where
    by_first : (x : Bool) → eqb b c ≡ x → (y : Bool) → ltb b c ≡ y → Compared s t → Compared (b ∷ s) (c ∷ t)
    by_first true k y l (first e) = first (before_equal b c s t (eqb-true b c k) ∙ e)
    by_first true k y l (equal e) = equal (ap₂ (λ (h : Byte) (l : Text). h ∷ l) (eqb-true b c k) e)
    by_first true k y l (second e) = second (before_equal c b t s (sym (eqb-true b c k)) ∙ e)
    by_first false k true l r = first (before_less b c s t (ltb-true b c l))
    by_first false k false l r =
        let apart : b ≢ c = eqb-false b c k in second (before_less c b t s (omega (arith, ltb-false b c l)))

-- What comes before another does not come after it, and is not the same
pub before_not_after : (s t : Text) → before s t ≡ true → before t s ≡ false
before_not_after s t e = go (before t s) refl
  where
    go : (x : Bool) → before t s ≡ x → before t s ≡ false
    go true k = absurd (true≢false (sym (before_trans s t s e k) ∙ before_self s))
    go false k = k

pub before_not_same : (s t : Text) → before s t ≡ true → same s t ≡ false
before_not_same s t e = go (same s t) refl
  where
    go : (x : Bool) → same s t ≡ x → same s t ≡ false
    go true k = absurd (true≢false (sym e ∙ ap (before s) (sym (same_true s t k)) ∙ before_self s))
    go false k = k

pub after_not_same : (s t : Text) → before t s ≡ true → same s t ≡ false
after_not_same s t e = go (same s t) refl
  where
    go : (x : Bool) → same s t ≡ x → same s t ≡ false
    go true k = absurd (true≢false (sym e ∙ ap (before t) (same_true s t k) ∙ before_self t))
    go false k = k
