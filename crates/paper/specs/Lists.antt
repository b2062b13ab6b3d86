-- Tools for lists, tests and what may be missing, of any unit.
use Rattle.std.specs.Prelude.{ℕ, ◌+◌, Bool, true, false, ◌&&◌, List, [], ◌∷◌, ◌++◌, ◌≡◌, leb}
use Rattle.std.proofs.Math.Option.{Option, none, some}

-- From a lowest to a highest, both counted (one unit for the three)
abbrev pub between : ℕ → ℕ → ℕ → Bool
between lowest highest n = leb lowest n && leb n highest

-- A sum, of one unit
abbrev pub sum : List ℕ → ℕ
sum [] = 0
sum (n ∷ ns) = n + sum ns

-- Lists one behind the other
abbrev pub joined_up : {A : Type 0} → List (List A) → List A
joined_up [] = []
joined_up (l ∷ ls) = l ++ joined_up ls

-- Whether all pass a test
abbrev pub every : {A : Type 0} → (A → Bool) → List A → Bool
every test [] = true
every test (a ∷ rest) = elim (test a) [ true ↦ every test rest | false ↦ false ]

-- Those that pass a test, in their order
abbrev pub only : {A : Type 0} → (A → Bool) → List A → List A
only test [] = []
only test (a ∷ rest) = elim (test a) [ true ↦ a ∷ only test rest | false ↦ only test rest ]

-- The first that passes a test, if one does
abbrev pub first_that : {A : Type 0} → (A → Bool) → List A → Option A
first_that test [] = none
first_that test (a ∷ rest) = elim (test a) [ true ↦ some a | false ↦ first_that test rest ]

-- Whether something is there
abbrev pub given : {A : Type 0} → Option A → Bool
given none = false
given (some a) = true

-- Something, where a test passes
abbrev pub when : {A : Type 0} → Bool → A → Option A
when true a = some a
when false a = none

infixl 20 ◌>>=◌
-- What may be missing, one after the other
abbrev pub ◌>>=◌ : {A B : Type 0} → Option A → (A → Option B) → Option B
none >>= next = none
some a >>= next = next a

-- Something is true of each entry
pub data Each {A : Type 0} (P : A → Type 0) : List A → Type 0 where
  nil : Each P []
  cons : {a : A} {rest : List A} → P a → Each P rest → Each P (a ∷ rest)

-- Each entry comes before those behind it, by a test
pub data InOrder {A : Type 0} (first : A → A → Bool) : List A → Type 0 where
  ended : InOrder first []
  ahead : {a : A} {rest : List A} → Each (λ b. first a b ≡ true) rest → InOrder first rest → InOrder first (a ∷ rest)
