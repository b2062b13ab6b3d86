-- Laws of what reading gives: rules that hold, steps of which none is refused, and how far a refusal's number and line go.
use Prim.Native.Nat.{ℕ, ◌≤◌, ◌<◌}
use mathlib.Core.Bool.{Bool, true, false}
use mathlib.Core.List.{List, [], ◌∷◌}
use mathlib.Core.Path.{◌≡◌, refl}
use native.Mathlib.Omega.{arith}
use borrow.Author.Tests.{leb-true}
use lib.Dec.{T, leb}
use Rattle.paper.specs.Units.{Number, Line}
use Rattle.paper.specs.Lists.{between, every}
use Rattle.paper.specs.Refusals.{Outcome, refused, accepted, ◌>>=◌, Rule, judged}
use Rattle.paper.specs.Tables.{hold}
use Rattle.paper.proofs.Lists.{both, every_cons}

-- What was read is one thing
pub accepted_one : {A : Type 0} {a b : A} → ◌≡◌ {A = Outcome A} (accepted a) (accepted b) → a ≡ b
accepted_one e = cc

-- A refusal is not acceptance
pub not_accepted : {A : Type 0} {X : Type 0} {number : Number} {line : Line} {a : A}
    → ◌≡◌ {A = Outcome A} (refused number line) (accepted a) → X
not_accepted e = let z : ◌≡◌ {A = ℕ} 0 1 = cc in absurd (omega arith)

-- A refusal is one number and one line
pub refused_one : {A : Type 0} {m number : Number} {l line : Line} → ◌≡◌ {A = Outcome A} (refused m l) (refused number line)
    → (m ≡ number) × (l ≡ line)
refused_one e = (cc, cc)

-- Where every rule holds, what is judged is accepted
pub judged_holds : {A : Type 0} (at : Line) (a : A) (rules : List Rule) → T (hold rules) → judged at a rules ≡ accepted a
judged_holds at a [] h = refl
judged_holds at a ((number, true) ∷ rules) h = judged_holds at a rules h
judged_holds at a ((number, false) ∷ rules) h = elim h [ ]

-- Where what is judged is accepted, every rule holds
pub judged_accepted : {A : Type 0} (at : Line) (a b : A) (rules : List Rule) → judged at a rules ≡ accepted b
    → (a ≡ b) × T (hold rules)
judged_accepted at a b [] e = (accepted_one e, tt)
judged_accepted at a b ((number, true) ∷ rules) e = judged_accepted at a b rules e
judged_accepted at a b ((number, false) ∷ rules) e = not_accepted e

-- One step after another is accepted only where each is
pub both_accepted : {A B X : Type 0} (o : Outcome A) (next : A → Outcome B) (b : B) → (o >>= next) ≡ accepted b
    → ((a : A) → o ≡ accepted a → next a ≡ accepted b → X) → X
both_accepted (refused number line) next b e then = not_accepted e
both_accepted (accepted a) next b e then = then a refl e

-- A refusal's number is 1 to 12, and its line below a limit
abbrev pub Sound : {A : Type 0} → Line → Outcome A → Type 0
Sound limit (refused number line) = (1 ≤ number) × (number ≤ 12) × (line < limit)
Sound limit (accepted a) = Unit

-- Whether the numbers of rules are 1 to 12
abbrev pub numbered : List Rule → Bool
numbered = every (λ rule. between 1 12 rule.0)

-- So it is with rules, at a line below the limit
pub judged_sound : {A : Type 0} (limit at : Line) (a : A) (rules : List Rule) → numbered rules ≡ true → at < limit
    → Sound limit (judged at a rules)
judged_sound limit at a [] n l = tt
judged_sound limit at a ((number, true) ∷ rules) n l =
    judged_sound limit at a rules (every_cons (λ rule. between 1 12 rule.0) (number, true) rules n).1 l
judged_sound limit at a ((number, false) ∷ rules) n l =
    let range = both (leb 1 number) (leb number 12) (every_cons (λ rule. between 1 12 rule.0) (number, false) rules n).0 in
    (leb-true 1 number range.0, leb-true number 12 range.1, l)

-- So it is with one step after another
pub bind_sound : {A B : Type 0} (limit : Line) (o : Outcome A) (next : A → Outcome B) → Sound limit o
    → ((a : A) → o ≡ accepted a → Sound limit (next a)) → Sound limit (o >>= next)
bind_sound limit (refused number line) next h each = h
bind_sound limit (accepted a) next h each = each a refl
