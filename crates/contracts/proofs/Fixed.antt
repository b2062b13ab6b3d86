-- What it is that a contract fixes its answer, and the law behind every entry of the list.
use Rattle.std.proofs.Common.{ℕ, List, Option, Some, Result, Ok, Bor, MutBor}
use Rattle.std.specs.declared.io.traits.Read.{Ghosts}
use denote.RattleType.{RattleType}
use denote.Param.Laws.{Laws, IsCopy}
use denote.MutBor.{Gone}
use mir.Syntax.{Dict, w64}
use mir.Val.{Fits}
use Rattle.std.specs.declared.clone.Clone as clone
use Rattle.tables.specs.declared.rows.Blank as blank
use mathlib.Core.Path.{◌≡◌, sym, ap₂, ◌∙◌}

module _ {K : Type 0} {A R S : K → Type 0} (post : (κs : K) → A κs → R κs → S κs → Type 0) where
  -- A contract, over the lifetimes, the arguments, the result and what is lent at exit: it fixes what is seen of the last two
  -- where that is the same of any two that it allows for the same arguments
  abbrev pub FixesSeen : {B : Type 0} → ((κs : K) → R κs → S κs → B) → Type 0
  FixesSeen seen = (κs : K) (a : A κs) (x y : R κs) (s u : S κs) → post κs a x s → post κs a y u → seen κs x s ≡ seen κs y u

  -- It fixes the result
  abbrev pub Fixes : Type 0
  Fixes = (κs : K) (a : A κs) (x y : R κs) (s u : S κs) → post κs a x s → post κs a y u → x ≡ y

module _ {K : Type 0} {A R S : RattleType → ℕ → Type 0}
    (post : (T : RattleType) (n : ℕ) → Laws T → Fits w64 n → IsCopy T → blank.Ghosts T.Denot → Dict → clone.Ghosts T.Denot → Dict
    → K → A T n → R T n → S T n → Type 0) where
  -- The same of a contract over the type of rows and their most: it fixes what is seen of result and of what is lent at exit
  abbrev pub FixesRows : {B : RattleType → ℕ → Type 0} → ((T : RattleType) (n : ℕ) → R T n → S T n → B T n) → Type 2
  FixesRows {B} seen =
      (T : RattleType) (n : ℕ) (laws : Laws T) (fits : Fits w64 n) (copy : IsCopy T) (b : blank.Ghosts T.Denot) (bd : Dict) (c : clone.Ghosts T.Denot) (cd : Dict)
      (κs : K) (a : A T n) (x y : R T n) (s u : S T n)
      → post T n laws fits copy b bd c cd κs a x s → post T n laws fits copy b bd c cd κs a y u → ◌≡◌ {A = B T n} (seen T n x s) (seen T n y u)

-- A contract of what reads into a lent room and gives what it read, over the reader's type with what is known of it: it fixes what
-- is read and what the reader has left, where the reader's bytes are known and nothing fails. What other readers give no contract
-- knows
abbrev pub FixesRead : {K E : Type 0} → ((R : RattleType) → Laws R → Ghosts R.Denot → Dict → K
    → MutBor R.Denot × (MutBor (List ℕ) × Unit {0}) → Result (Bor (List ℕ)) E → MutBor R.Denot × (Gone × Unit {0}) → Type 0) → Type 2
FixesRead {K} {E} post = (R : RattleType) (laws : Laws R) (g : Ghosts R.Denot) (dict : Dict) (κs : K)
    (a : MutBor R.Denot × (MutBor (List ℕ) × Unit {0})) (x y : Bor (List ℕ)) (s u : MutBor R.Denot × (Gone × Unit {0})) (bytes : List ℕ)
    → g.remaining a.0.now ≡ Some bytes
    → post R laws g dict κs a (Ok x) s
    → post R laws g dict κs a (Ok y) u
    → ◌≡◌ {A = List ℕ × Option (List ℕ)} (x.now, g.remaining s.0.now) (y.now, g.remaining u.0.now)

-- The law: what equals one thing is equal
pub one : {A : Type 0} {x y d : A} → x ≡ d → y ≡ d → x ≡ y
one p q = p ∙ sym q

-- ... and so are pairs whose parts each equal one thing
pub both : {A B : Type 0} {x y d : A} {v w e : B} → (x ≡ d) × (v ≡ e) → (y ≡ d) × (w ≡ e) → ◌≡◌ {A = A × B} (x, v) (y, w)
both p q = ap₂ (λ x v. (x, v)) (one p.0 q.0) (one p.1 q.1)
