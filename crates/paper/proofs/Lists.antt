-- Laws of the tools for lists and tests.
use Prim.Native.Nat.{ℕ, zero, suc, ◌+◌, ◌*◌, ◌≤◌, ◌<◌}
use native.Mathlib.Nat.{suc-mul, le_of_suc-le-suc, not-suc-le-zero}
use native.Mathlib.Omega.{arith}
use mathlib.Core.Bool.{Bool, true, false, not, ◌&&◌, ◌||◌}
use mathlib.Core.List.{List, [], ◌∷◌, ◌++◌, map, reverse_aux, append_assoc}
use mathlib.Core.Option.{Option, none, some, some-injective, none-ne-some}
use mathlib.Core.Path.{◌≡◌, refl, sym, ap, ◌∙◌, subst}
use borrow.Author.Tests.{leb-true, le-leb}
use lib.Dec.{T, leb, leb→le, ltb→lt}
use lib.ListN.{length, get_or, set, take, length-append}
pub use Rattle.paper.specs.Lists.{Each, nil, cons}
use Rattle.paper.specs.Lists.{InOrder, ended, ahead, between, sum, joined_up, every, only, first_that, given, when, ◌>>=◌}

-- No test both passes and fails
pub never : {X : Type 0} → false ≡ true → X
never e = absurd (subst T (sym e) tt)

-- A test that holds passes, and one that passes holds
pub passes : (b : Bool) → T b → b ≡ true
passes true h = refl
passes false h = elim h [ ]

pub holds : (b : Bool) → b ≡ true → T b
holds b e = subst T (sym e) tt

-- Both of two tests pass
pub both : (a b : Bool) → (a && b) ≡ true → (a ≡ true) × (b ≡ true)
both true b e = (refl, e)
both false b e = never e

-- Of two tests that hold together the first holds
pub left : (a b : Bool) → T (a && b) → T a
left true b h = tt
left false b h = elim h [ ]

-- And so does the second
pub right : (a b : Bool) → T (a && b) → T b
right true b h = h
right false b h = elim h [ ]

-- Two tests that hold hold together
pub together : (a b : Bool) → T a → T b → T (a && b)
together true b h k = k
together false b h k = elim h [ ]

-- Where a first test passes, and it fails or else a second holds, the second holds
pub otherwise : (a b : Bool) → a ≡ true → T (not a || b) → T b
otherwise true b e h = h
otherwise false b e h = never e

-- What tests that hold together say: each of them passes, and its numbers are in its order
pub ruleset tests = (left, right, passes, leb→le, ltb→lt)

-- Something is there only where its test passes
pub when_some : {A : Type 0} (b : Bool) (a d : A) → when b a ≡ some d → (b ≡ true) × (a ≡ d)
when_some true a d e = (refl, some-injective a d e)
when_some false a d e = absurd (none-ne-some d e)

-- A number from a lowest to a highest passes
pub within : (lowest highest n : ℕ) → lowest ≤ n → n ≤ highest → between lowest highest n ≡ true
within lowest highest n p q = simp (le-leb lowest n p, le-leb n highest q)

-- A number that passes is from the lowest to the highest
pub bounds : (lowest highest n : ℕ) → between lowest highest n ≡ true → (lowest ≤ n) × (n ≤ highest)
bounds lowest highest n e =
    let b = both (leb lowest n) (leb n highest) e in
    (leb-true lowest n b.0, leb-true n highest b.1)

-- What comes of one thing after another comes of the first
pub bind_some : {A B : Type 0} (o : Option A) (next : A → Option B) (b : B) → (o >>= next) ≡ some b
    → (a : A) × (o ≡ some a) × (next a ≡ some b)
bind_some none next b e = absurd (none-ne-some b e)
bind_some (some a) next b e = (a, refl, e)

-- Something is there only where its test passes
pub given_when : {A : Type 0} (b : Bool) (a : A) → given (when b a) ≡ true → b ≡ true
given_when true a e = refl
given_when false a e = never e

-- What is there is something
pub given_some : {A : Type 0} (o : Option A) → given o ≡ true → (a : A) × (o ≡ some a)
given_some none e = never e
given_some (some a) e = (a, refl)

-- All pass where the first does and the rest do
pub every_step : {A : Type 0} (test : A → Bool) (x : A) (xs : List A) → every test (x ∷ xs) ≡ (test x && every test xs)
every_step test x xs = go (test x) refl
  where
    go : (b : Bool) → test x ≡ b → every test (x ∷ xs) ≡ (test x && every test xs)
    go true e = rw (e, every)
    go false e = rw (e, every)

-- Where all pass, the first does and the rest do
pub every_cons : {A : Type 0} (test : A → Bool) (x : A) (xs : List A) → every test (x ∷ xs) ≡ true
    → (test x ≡ true) × (every test xs ≡ true)
every_cons test x xs e = both (test x) (every test xs) (sym (every_step test x xs) ∙ e)

-- Two lists on end pass where each does
pub every_append : {A : Type 0} (test : A → Bool) (xs ys : List A) → every test xs ≡ true → every test ys ≡ true
    → every test (xs ++ ys) ≡ true
every_append test [] ys h k = k
every_append test (x ∷ xs) ys h k =
    let b = every_cons test x xs h in
    rw (every_step test x (xs ++ ys), b.0) (every_append test xs ys b.1 k)

-- What passes one test passes each test that follows from it
pub every_weaker : {A : Type 0} (strong weak : A → Bool) → ((a : A) → strong a ≡ true → weak a ≡ true)
    → (xs : List A) → every strong xs ≡ true → every weak xs ≡ true
every_weaker strong weak f [] h = refl
every_weaker strong weak f (x ∷ xs) h =
    let b = every_cons strong x xs h in
    rw (every_step weak x xs, f x b.0) (every_weaker strong weak f xs b.1)

-- The first that passes a test passes it
pub first_passes : {A : Type 0} (test : A → Bool) (xs : List A) (a : A) → first_that test xs ≡ some a → test a ≡ true
first_passes test [] a h = absurd (none-ne-some a h)
first_passes test (x ∷ xs) a h = go (test x) refl (first_passes test xs a)
  where
    go : (b : Bool) → test x ≡ b → (first_that test xs ≡ some a → test a ≡ true) → test a ≡ true
    go true e r = rw (some-injective x a (rw (e, first_that) at h)) at e
    go false e r = r (rw (e, first_that) at h)

-- An entry that passes a test is kept, and another is not
pub only_kept : {A : Type 0} (test : A → Bool) (x : A) (xs : List A) → test x ≡ true → only test (x ∷ xs) ≡ x ∷ only test xs
only_kept test x xs e = rw (e, only)

pub only_left : {A : Type 0} (test : A → Bool) (x : A) (xs : List A) → test x ≡ false → only test (x ∷ xs) ≡ only test xs
only_left test x xs e = rw (e, only)

-- Those of two lists, one behind the other
pub only_append : {A : Type 0} (test : A → Bool) (xs ys : List A) → only test (xs ++ ys) ≡ only test xs ++ only test ys
only_append test [] ys = refl
only_append {A} test (x ∷ xs) ys = go (test x) refl (only_append test xs ys)
  where
    go : (b : Bool) → test x ≡ b → only test (xs ++ ys) ≡ only test xs ++ only test ys
        → only test (x ∷ (xs ++ ys)) ≡ only test (x ∷ xs) ++ only test ys
    go true e r = rw (only_kept test x (xs ++ ys) e, only_kept test x xs e) (ap (λ (l : List A). x ∷ l) r)
    go false e r = rw (only_left test x (xs ++ ys) e, only_left test x xs e) r

-- A test that all entries of a table pass, computed once, passes at each place
pub every_at : {A : Type 0} (test : A → Bool) (xs : List A) (other : A) → every test xs ≡ true
    → (i : ℕ) → i < length xs → test (get_or xs i other) ≡ true
every_at test [] other e i h = absurd (not-suc-le-zero h)
every_at test (x ∷ xs) other e zero h = (every_cons test x xs e).0
every_at test (x ∷ xs) other e (suc i) h = every_at test xs other (every_cons test x xs e).1 i (le_of_suc-le-suc h)

-- What follows from what is true of each entry is true of each too
pub each_map : {A : Type 0} {P Q : A → Type 0} {xs : List A} → ((a : A) → P a → Q a) → Each P xs → Each Q xs
each_map f nil = nil
each_map f (cons {a} p ps) = cons (f a p) (each_map f ps)

-- A test that each passes is passed by all
pub each_every : {A : Type 0} (test : A → Bool) {xs : List A} → Each (λ x. test x ≡ true) xs → every test xs ≡ true
each_every test nil = refl
each_every test (cons {a} {rest} p ps) = rw (every_step test a rest, p) (each_every test ps)

-- What is made of each entry, at a place of them
pub made_at : {A B : Type 0} (make : A → B) (xs : List A) (n : ℕ) (x : B) (y : A) → n < length xs
    → get_or (map make xs) n x ≡ make (get_or xs n y)
made_at make [] n x y h = absurd (omega arith)
made_at make (a ∷ xs) zero x y h = refl
made_at make (a ∷ xs) (suc n) x y h = made_at make xs n x y (omega arith)

-- Of the first, and of the rest
pub each_first : {A : Type 0} {P : A → Type 0} {a : A} {rest : List A} → Each P (a ∷ rest) → P a
each_first (cons p ps) = p

pub each_rest : {A : Type 0} {P : A → Type 0} {a : A} {rest : List A} → Each P (a ∷ rest) → Each P rest
each_rest (cons p ps) = ps

-- ... and of what stands at a place below the length
pub each_at : {A : Type 0} {P : A → Type 0} {xs : List A} (n : ℕ) (other : A) → Each P xs → n < length xs → P (get_or xs n other)
each_at n other nil h = absurd (omega arith)
each_at zero other (cons p rest) h = p
each_at (suc n) other (cons p rest) h = each_at n other rest (omega arith)

-- Where no entry passes a test, none is kept
pub only_none : {A : Type 0} (test : A → Bool) (xs : List A) → Each (λ x. test x ≡ false) xs → only test xs ≡ []
only_none test [] each = refl
only_none test (x ∷ xs) each = only_left test x xs (each_first each) ∙ only_none test xs (each_rest each)

-- The entries before a place and the entry there are no more than the whole
pub sum_part : (xs : List ℕ) (i : ℕ) → sum (take i xs) + get_or xs i 0 ≤ sum xs
sum_part [] zero = omega arith
sum_part [] (suc i) = omega arith
sum_part (x ∷ xs) zero = omega arith
sum_part (x ∷ xs) (suc i) = omega (arith, sum_part xs i)

-- What is true of all is true of each entry
pub each_all : {A : Type 0} {P : A → Type 0} → ((a : A) → P a) → (xs : List A) → Each P xs
each_all all [] = nil
each_all all (x ∷ xs) = cons (all x) (each_all all xs)

-- What is true at each place of a list is true of each entry
pub each_place : {A : Type 0} {P : A → Type 0} (xs : List A) (other : A) → ((i : ℕ) → i < length xs → P (get_or xs i other)) → Each P xs
each_place [] other at = nil
each_place (x ∷ xs) other at = cons (at 0 (omega arith)) (each_place xs other (λ i h. at (suc i) (omega arith)))

-- What is true of each entry beside any that a fact holds of is true of each such entry beside itself
pub each_self : {A : Type 0} {Q : A → Type 0} {P : A → A → Type 0} (xs : List A) → ((x : A) → Q x → Each (P x) xs)
    → Each (λ x. Q x → P x x) xs
each_self [] beside = nil
each_self (x ∷ xs) beside = cons (λ q. each_first (beside x q)) (each_self xs (λ y q. each_rest (beside y q)))

-- An entry is among those of a list: it stands between those above it and those below
abbrev pub Among : {A : Type 0} → A → List A → Type 0
Among {A} x xs = (above : List A) × (below : List A) × (xs ≡ above ++ (x ∷ below))

-- It is so behind one more
pub among_on : {A : Type 0} {x : A} {xs : List A} (y : A) → Among x xs → Among x (y ∷ xs)
among_on {A} y (above, below, e) = (y ∷ above, below, ap (λ (l : List A). y ∷ l) e)

-- Each entry of a list is among them
pub each_among : {A : Type 0} (xs : List A) → Each (λ x. Among x xs) xs
each_among [] = nil
each_among (x ∷ xs) = cons ([], xs, refl) (each_map (λ y s. among_on x s) (each_among xs))

-- What is true of each entry is true of the first that passes a test
pub each_found : {A : Type 0} {P : A → Type 0} (test : A → Bool) (xs : List A) → Each P xs
    → (a : A) → first_that test xs ≡ some a → P a
each_found test [] nil a e = let z : ◌≡◌ {A = ℕ} 0 1 = cc in absurd (omega arith)
each_found {A} {P} test (x ∷ xs) (cons p ps) a e = go (test x) refl (each_found test xs ps a)
  where
    go : (b : Bool) → test x ≡ b → (first_that test xs ≡ some a → P a) → P a
    go true k rest = rw (some-injective x a (rw (k, first_that) at e)) at p
    go false k rest = rest (rw (k, first_that) at e)

-- Where entries fail a test, the first that passes it is the same behind them, the nearest of them first
pub first_behind : {A : Type 0} (test : A → Bool) (above xs : List A) → Each (λ a. test a ≡ false) above
    → first_that test (reverse_aux above xs) ≡ first_that test xs
first_behind test [] xs nil = refl
first_behind test (a ∷ above) xs (cons e rest) = first_behind test above (a ∷ xs) rest ∙ rw (e, first_that)

-- What is true of each entry that passes a test is true of each that is kept by it
pub each_kept : {A : Type 0} {P : A → Type 0} (test : A → Bool) (xs : List A) → Each (λ x. test x ≡ true → P x) xs
    → Each P (only test xs)
each_kept test [] nil = nil
each_kept {A} {P} test (x ∷ xs) (cons p ps) = go (test x) refl (each_kept test xs ps)
  where
    go : (b : Bool) → test x ≡ b → Each P (only test xs) → Each P (only test (x ∷ xs))
    go true k rest = rw (k, only) (cons (p k) rest)
    go false k rest = rw (k, only) rest

-- ... and the other way round
pub kept_each : {A : Type 0} {P : A → Type 0} (test : A → Bool) (xs : List A) → Each P (only test xs)
    → Each (λ x. test x ≡ true → P x) xs
kept_each test [] each = nil
kept_each {A} {P} test (x ∷ xs) each = go (test x) refl (kept_each test xs)
  where
    go : (b : Bool) → test x ≡ b → (Each P (only test xs) → Each (λ x. test x ≡ true → P x) xs)
        → Each (λ x. test x ≡ true → P x) (x ∷ xs)
    go true k rest = let kept = rw (k, only) at each in cons (λ e. each_first kept) (rest (each_rest kept))
    go false k rest = cons (λ e. never (sym k ∙ e)) (rest (rw (k, only) at each))

-- Where a test keeps nothing, no entry passes it
pub none_kept : {A : Type 0} (test : A → Bool) (xs : List A) → only test xs ≡ [] → Each (λ x. test x ≡ true → ⊥) xs
none_kept {A} test xs e = kept_each test xs (subst (Each (λ (x : A). ⊥)) (sym e) nil)

-- What is true of each entry is true of each that passes a test
pub each_only : {A : Type 0} {P : A → Type 0} (test : A → Bool) (xs : List A) → Each P xs → Each P (only test xs)
each_only test xs each = each_kept test xs (each_map (λ x p e. p) each)

-- No more pass a test than there are
pub length_only : {A : Type 0} (test : A → Bool) (xs : List A) → length (only test xs) ≤ length xs
length_only test [] = omega arith
length_only test (x ∷ xs) = go (test x) refl (length_only test xs)
  where
    go : (b : Bool) → test x ≡ b → length (only test xs) ≤ length xs → length (only test (x ∷ xs)) ≤ suc (length xs)
    go true k rest = rw (k, only) (omega arith)
    go false k rest = rw (k, only) (omega arith)

-- What is true of what each entry is made to, is true of each that is made
pub each_made : {A B : Type 0} {P : B → Type 0} (make : A → B) (xs : List A) → Each (λ a. P (make a)) xs
    → Each P (map make xs)
each_made make [] nil = nil
each_made make (x ∷ xs) (cons p ps) = cons p (each_made make xs ps)

-- ... and the other way round
pub made_each : {A B : Type 0} {P : B → Type 0} (make : A → B) (xs : List A) → Each P (map make xs)
    → Each (λ a. P (make a)) xs
made_each make [] each = nil
made_each make (x ∷ xs) each = cons (each_first each) (made_each make xs (each_rest each))

-- A sum of numbers that are each at most a bound is at most the bound times how many they are
pub sum_most : (most : ℕ) (ns : List ℕ) → Each (λ n. n ≤ most) ns → sum ns ≤ length ns * most
sum_most most [] nil = omega arith
sum_most most (n ∷ ns) (cons small rest) = omega (arith, sum_most most ns rest, suc-mul (length ns) most)

-- Entries whose number is 0 may be left out of a sum
pub sum_kept : {A : Type 0} (number : A → ℕ) (test : A → Bool) → ((a : A) → test a ≡ false → number a ≡ 0)
    → (xs : List A) → sum (map number (only test xs)) ≡ sum (map number xs)
sum_kept number test zeros [] = refl
sum_kept number test zeros (x ∷ xs) = go (test x) refl (sum_kept number test zeros xs)
  where
    go : (b : Bool) → test x ≡ b → sum (map number (only test xs)) ≡ sum (map number xs)
        → sum (map number (only test (x ∷ xs))) ≡ number x + sum (map number xs)
    go true e rest = rw (e, only) (omega arith)
    go false e rest = rw (e, only) (omega (arith, zeros x e))

-- Where what is stored is at most a bound, a place that was at most the bound still is
pub set_most : (most : ℕ) (ns : List ℕ) (i n j : ℕ) → get_or ns j 0 ≤ most → n ≤ most → get_or (set ns i n) j 0 ≤ most
set_most most [] i n j p q = p
set_most most (x ∷ ns) zero n zero p q = q
set_most most (x ∷ ns) zero n (suc j) p q = p
set_most most (x ∷ ns) (suc i) n zero p q = p
set_most most (x ∷ ns) (suc i) n (suc j) p q = set_most most ns i n j p q

-- Pieces of at most so many entries, one behind the other, have together at most so many for each
pub joined_most : {A R : Type 0} (piece : R → List A) (most : ℕ) (rs : List R) → Each (λ r. length (piece r) ≤ most) rs
    → length (joined_up (map piece rs)) ≤ length rs * most
joined_most piece most [] nil = omega arith
joined_most piece most (r ∷ rs) (cons small rest) =
    omega (
      arith,
      length-append (piece r) (joined_up (map piece rs)),
      joined_most piece most rs rest,
      suc-mul (length rs) most,
    )

-- The pieces of two lists together are those of the first and those of the second
pub joined_parts : {A R : Type 0} (piece : R → List A) (xs ys : List R)
    → joined_up (map piece (xs ++ ys)) ≡ joined_up (map piece xs) ++ joined_up (map piece ys)
joined_parts piece [] ys = refl
joined_parts piece (x ∷ xs) ys =
    ap (λ (l : List _). piece x ++ l) (joined_parts piece xs ys) ∙ sym (append_assoc (piece x) (joined_up (map piece xs)) (joined_up (map piece ys)))

-- ... and with one entry between
pub joined_among : {A R : Type 0} (piece : R → List A) {x : R} {xs : List R} (s : Among x xs)
    → joined_up (map piece xs) ≡ joined_up (map piece s.0) ++ (piece x ++ joined_up (map piece s.1))
joined_among piece {x} (above, below, e) = ap (λ (l : List _). joined_up (map piece l)) e ∙ joined_parts piece above (x ∷ below)

-- And so are their lengths
pub joined_append : {A R : Type 0} (piece : R → List A) (xs ys : List R)
    → length (joined_up (map piece (xs ++ ys))) ≡ length (joined_up (map piece xs)) + length (joined_up (map piece ys))
joined_append piece xs ys =
    ap length (joined_parts piece xs ys) ∙ length-append (joined_up (map piece xs)) (joined_up (map piece ys))

-- The pieces of those that pass a test are the pieces of all, where one that does not pass has an empty piece
pub joined_only : {A R : Type 0} (piece : R → List A) (test : R → Bool) (rs : List R)
    → joined_up (map piece (only test rs)) ≡ joined_up (map (λ r. elim (test r) [ true ↦ piece r | false ↦ [] ]) rs)
joined_only piece test [] = refl
joined_only {A} {R} piece test (r ∷ rs) = go (test r) (joined_only piece test rs)
  where
    go : (b : Bool) → joined_up (map piece (only test rs)) ≡ joined_up (map (λ r. elim (test r) [ true ↦ piece r | false ↦ [] ]) rs)
        → joined_up (map piece (elim b [ true ↦ r ∷ only test rs | false ↦ only test rs ]))
        ≡ elim b [ true ↦ piece r | false ↦ [] ] ++ joined_up (map (λ r. elim (test r) [ true ↦ piece r | false ↦ [] ]) rs)
    go true rest = ap (λ (l : List A). piece r ++ l) rest
    go false rest = rest

-- The first of what is made of entries is made of the first of them
pub take_map : {A B : Type 0} (f : A → B) (n : ℕ) (xs : List A) → take n (map f xs) ≡ map f (take n xs)
take_map f zero xs = refl
take_map f (suc n) [] = refl
take_map f (suc n) (x ∷ xs) = ap (λ (l : List _). f x ∷ l) (take_map f n xs)

-- Those that pass a test are in the order of all
pub order_only : {A : Type 0} {first : A → A → Bool} (test : A → Bool) (xs : List A) → InOrder first xs → InOrder first (only test xs)
order_only test [] order = ended
order_only {A} {first} test (x ∷ xs) (ahead behind order) = go (test x) refl (order_only test xs order)
  where
    go : (b : Bool) → test x ≡ b → InOrder first (only test xs) → InOrder first (only test (x ∷ xs))
    go true e rest = rw (e, only) (ahead (each_only test xs behind) rest)
    go false e rest = rw (e, only) rest

-- What is made of entries is in order where they are, by what is made of them
pub order_made : {A B : Type 0} (make : A → B) {first : B → B → Bool} (xs : List A) → InOrder (λ a b. first (make a) (make b)) xs → InOrder first (map make xs)
order_made make [] order = ended
order_made make (x ∷ xs) (ahead behind order) = ahead (each_made make xs behind) (order_made make xs order)
