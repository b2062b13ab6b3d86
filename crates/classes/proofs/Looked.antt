-- The class that is found among the C rows of a table is the one that the paper gives a security.
use Prim.Native.Nat.{ℕ, zero, suc, ◌≤◌}
use native.Mathlib.Omega.{arith}
use mathlib.Core.Bool.{Bool, true, false, not, ◌&&◌, cond}
use mathlib.Core.List.{List, [], ◌∷◌, map}
use mathlib.Core.Option as maybe
use mathlib.Core.Option.{none, some, get_or}
use mathlib.Core.Path.{◌≡◌, refl, sym, ap, ◌∙◌}
use Rattle.std.proofs.Common.{Option, Some, option_map}
use Rattle.std.specs.List.{find}
use borrow.Author.Tests.{le-leb, lt-leb, ltb-true, ltb-false}
use lib.Dec.{eqb, leb, ltb}
use Rattle.paper.specs.Units.{Class, Duration}
use Rattle.paper.specs.Lists.{between, every, first_that}
use Rattle.paper.specs.Rows as paper
use Rattle.paper.specs.Rows.{Kind, government, corporate, inflation, floating, same_kind}
use Rattle.paper.specs.Valuation.{lower, class_of}
use Rattle.paper.specs.Refusals.{is_duration}
use Rattle.paper.proofs.Lists.{never, bounds, every_cons}
use Rattle.answers.specs.Options.{answer}
use Rattle.tables.specs.Numbers.{kind_number}
use Rattle.tables.specs.Back.{kind_of, duration_of, paper_class}
use Rattle.tables.specs.declared.ClassRow.{ClassRow}
use Rattle.classes.specs.Search.{suits, class_in}

-- A border is not below a duration where its number is not
not_lower : (b d : Duration) → leb d b ≡ not (ltb b d)
not_lower b d = go (ltb b d) refl
  where
    go : (t : Bool) → ltb b d ≡ t → leb d b ≡ not t
    go true h = lt-leb d b (ltb-true b d h)
    go false h = le-leb d b (ltb-false b d h)

-- No border is below none
none_lower : (b : Duration) (o : maybe.Option Duration) → leb 0 b ≡ not (lower o none)
none_lower b none = le-leb 0 b (omega arith)
none_lower b (some a) = le-leb 0 b (omega arith)

-- The code's test of a class is the paper's
fits : (n : ℕ) (b : Duration) (kind : Kind) (duration : maybe.Option Duration) → is_duration kind duration ≡ true
    → (eqb (kind_number (kind_of n)) (kind_number kind) && leb (get_or duration 0) b)
    ≡ (same_kind (kind_of n) kind && not (lower (duration_of n b) duration))
fits n b government none e = never e
fits n b corporate none e = never e
fits n b inflation (some d) e = never e
fits n b floating (some d) e = never e
fits zero b government (some d) e = not_lower b d
fits zero b corporate (some d) e = refl
fits zero b inflation none e = refl
fits zero b floating none e = refl
fits (suc zero) b government (some d) e = refl
fits (suc zero) b corporate (some d) e = not_lower b d
fits (suc zero) b inflation none e = refl
fits (suc zero) b floating none e = refl
fits (suc (suc zero)) b government (some d) e = refl
fits (suc (suc zero)) b corporate (some d) e = refl
fits (suc (suc zero)) b inflation none e = none_lower b (duration_of 2 b)
fits (suc (suc zero)) b floating none e = refl
fits (suc (suc (suc n))) b government (some d) e = refl
fits (suc (suc (suc n))) b corporate (some d) e = refl
fits (suc (suc (suc n))) b inflation none e = refl
fits (suc (suc (suc n))) b floating none e = none_lower b (duration_of (suc (suc (suc n))) b)

module _ (kind : Kind) (duration : maybe.Option Duration) (timed : is_duration kind duration ≡ true) where
  abbrev fitting : paper.ClassRow → Bool
  fitting c = same_kind c.kind kind && not (lower c.border duration)

  -- The class that is found is the paper's
  pub class_found : (cs : List ClassRow) → class_in cs (kind_number kind) (get_or duration 0) ≡ answer (class_of (map paper_class cs) kind duration)
  class_found [] = refl
  class_found (c ∷ cs) = ap step (fits c.kind c.border kind duration timed) ∙ go (fitting (paper_class c)) (class_found cs)
    where
      step : Bool → Option Class
      step t = option_map (λ (c : ClassRow). c.class) (cond t (Some c) (find (suits (kind_number kind) (get_or duration 0)) cs))

      go : (t : Bool) → class_in cs (kind_number kind) (get_or duration 0) ≡ answer (class_of (map paper_class cs) kind duration)
          → step t ≡ answer (maybe.map (λ (c : paper.ClassRow). c.class) (elim t [ true ↦ some (paper_class c) | false ↦ first_that fitting (map paper_class cs) ]))
      go true rest = refl
      go false rest = rest

-- It is one of the table's: at most 40
pub class_most : (kind : ℕ) (duration : Duration) (cs : List ClassRow) → every (λ c. between 1 40 c.class) cs ≡ true
    → (n : Class) → class_in cs kind duration ≡ Some n → n ≤ 40
class_most kind duration [] all n e = cc
class_most kind duration (c ∷ cs) all n e =
    let each = every_cons (λ c. between 1 40 c.class) c cs all in
    go (suits kind duration c) (bounds 1 40 c.class each.0).1 (class_most kind duration cs each.1 n) e
  where
    go : (t : Bool) → c.class ≤ 40 → (class_in cs kind duration ≡ Some n → n ≤ 40)
        → option_map (λ (c : ClassRow). c.class) (cond t (Some c) (find (suits kind duration) cs)) ≡ Some n → n ≤ 40
    go true most rest e = let same : c.class ≡ n = cc in rw (sym same) most
    go false most rest e = rest e
