-- Where entries stand: the place of a number among numbers, a row of a table by its place, and that the numbers of admitted
-- codes and of currencies rise, so that no two places have the same.
use Prim.Native.Nat.{ℕ, zero, suc, ◌≤◌, ◌<◌}
use native.Mathlib.Omega.{arith}
use mathlib.Core.Bool.{Bool, true, false}
use mathlib.Core.List.{List, [], ◌∷◌, map}
use mathlib.Core.Option.{some, some-injective, none-ne-some}
use mathlib.Core.Path.{◌≡◌, refl, sym, ap, ◌∙◌}
use borrow.Author.Tests.{eq-eqb, ne_eqb, ltb-true, ltb-false}
use lib.Dec.{T, eqb, ltb, eqb-suc-suc}
use lib.ListN.{length, get_or}
use Rattle.std.specs.Prelude.{Some, None}
use Rattle.std.specs.Bool.{then_some}
use Rattle.std.proofs.lemmas.Option.{same_Some, none-some}
use Rattle.paper.specs.Units.{Currency}
use Rattle.paper.specs.Lists.{every, first_that, given, Each, nil, cons}
use Rattle.paper.specs.Text.{same, before, is_currency}
use Rattle.paper.specs.Rows.{ClassRow, SecurityRow}
use Rattle.paper.specs.Currencies.{placed, currencies}
use Rattle.paper.specs.Refusals.{rules_of, security_kind}
use Rattle.paper.specs.Tables.{hold, hold_down}
use Rattle.paper.proofs.Lists.{tests, every_cons}
use Rattle.paper.proofs.Order.{same_refl, Compared, first, equal, second, compared}
use Rattle.paper.proofs.Rules.{security_facts}
use Rattle.paper.proofs.Currencies.{placed_there, placed_first, placed_on, has_currency_lem, each_currency}
use Rattle.tables.specs.Numbers.{code_number, currency_number, number_place}
use Rattle.tables.specs.Held.{codes_of}
use Rattle.tables.specs.Ranks.{found_place}
use Rattle.tables.proofs.Numbers.{code_number_before, currency_number_before}

-- An entry stands at a place of a list
pub data Stands {A : Type 0} (x : A) : List A → ℕ → Type 0 where
  here : {xs : List A} → Stands x (x ∷ xs) 0
  there : {y : A} {xs : List A} {k : ℕ} → Stands x xs k → Stands x (y ∷ xs) (suc k)

module _ {A : Type 0} where
  -- The place is one of the list's
  pub stands_low : {x : A} {xs : List A} {k : ℕ} → Stands x xs k → k < length xs
  stands_low here = omega arith
  stands_low (there s) = omega (arith, stands_low s)

  -- What is true of each entry is true of it
  pub stands_each : {P : A → Type 0} {x : A} {xs : List A} {k : ℕ} → Each P xs → Stands x xs k → P x
  stands_each (cons p ps) here = p
  stands_each (cons p ps) (there s) = stands_each ps s
  stands_each nil s = elim s [ ]

  -- ... and what is true of whatever stands somewhere is true of each
  pub each_standing : {P : A → Type 0} (xs : List A) → ((k : ℕ) (x : A) → Stands x xs k → P x) → Each P xs
  each_standing [] p = nil
  each_standing (x ∷ xs) p = cons (p 0 x here) (each_standing xs (λ k y s. p (suc k) y (there s)))

  -- One that passes a test is there to be found
  stands_found : (test : A → Bool) {x : A} {xs : List A} {k : ℕ} → test x ≡ true → Stands x xs k → given (first_that test xs) ≡ true
  stands_found test e here = rw (e, first_that)
  stands_found test e (there {y} {xs} s) = go (test y) refl (stands_found test e s)
    where
      go : (b : Bool) → test y ≡ b → given (first_that test xs) ≡ true → given (first_that test (y ∷ xs)) ≡ true
      go true k rest = rw (k, first_that)
      go false k rest = rw (k, first_that) rest

  -- What is made of the entries, at its place
  pub stands_made : {H : Type 0} (make : A → H) (none : H) {x : A} {xs : List A} {k : ℕ} → Stands x xs k → get_or (map make xs) k none ≡ make x
  stands_made make none here = refl
  stands_made make none (there s) = stands_made make none s

  -- The first that passes a test on its number stands at the place of the number
  pub first_stands : (key : A → ℕ) (n : ℕ) (test : A → Bool) {xs : List A} → Each (λ a. test a ≡ eqb (key a) n) xs
      → (x : A) → first_that test xs ≡ some x → Stands x xs (number_place (map key xs) n)
  first_stands key n test nil x e = absurd (none-ne-some x e)
  first_stands key n test (cons {a} {rest} p ps) x e = go (test a) refl (first_stands key n test ps x)
    where
      go : (b : Bool) → test a ≡ b → (first_that test rest ≡ some x → Stands x rest (number_place (map key rest) n))
          → Stands x (a ∷ rest) (number_place (map key (a ∷ rest)) n)
      go true k on = rw (sym p ∙ k, number_place, some-injective a x (rw (k, first_that) at e)) here
      go false k on = rw (sym p ∙ k, number_place) (there (on (rw (k, first_that) at e)))

-- ---- every place of a table

module _ {A : Type 0} (P : A → Type 0) where
  -- What is true of each entry and past them is true at every place
  pub each_any : {xs : List A} → Each P xs → (other : A) → P other → (i : ℕ) → P (get_or xs i other)
  each_any nil other past i = past
  each_any (cons p ps) other past zero = p
  each_any (cons p ps) other past (suc i) = each_any ps other past i

-- ---- numbers that rise

-- Each number is above the one before it, and the first is not below a lowest
pub data Rises : ℕ → List ℕ → Type 0 where
  no_more : {low : ℕ} → Rises low []
  one_more : {low n : ℕ} {ns : List ℕ} → low ≤ n → Rises (suc n) ns → Rises low (n ∷ ns)

module _ {A : Type 0} (key : A → ℕ) where
  rises_low : {x : A} {low : ℕ} {xs : List A} {k : ℕ} → Stands x xs k → Rises low (map key xs) → low ≤ key x
  rises_low here (one_more p r) = p
  rises_low (there {y = y} s) (one_more p r) = omega (arith, rises_low {low = suc (key y)} s r)

  -- The place of an entry's number is its own
  pub rises_place : {x : A} {low : ℕ} {xs : List A} {k : ℕ} → Stands x xs k → Rises low (map key xs) → number_place (map key xs) (key x) ≡ k
  rises_place {x = x} here (one_more p r) = rw (eq-eqb (key x) (key x) refl, number_place)
  rises_place {x = x} (there {y = y} s) (one_more p r) =
      rw (ne_eqb (key y) (key x) (λ e. omega (arith, rises_low s r)), number_place) (ap suc (rises_place {low = suc (key y)} s r))

  -- Two numbers are equal where their places are
  pub rises_same : {x y : A} {low : ℕ} {xs : List A} {j k : ℕ} → Stands x xs j → Stands y xs k → Rises low (map key xs)
      → eqb (key x) (key y) ≡ eqb j k
  rises_same {x = x} here here (one_more p r) = eq-eqb (key x) (key x) refl
  rises_same {x = x} {y} here (there {k} s) (one_more p r) =
      ne_eqb (key x) (key y) (λ e. omega (arith, rises_low s r)) ∙ sym (ne_eqb 0 (suc k) (λ e. omega arith))
  rises_same {x = x} {y} (there {k = j} s) here (one_more p r) =
      ne_eqb (key x) (key y) (λ e. omega (arith, rises_low s r)) ∙ sym (ne_eqb (suc j) 0 (λ e. omega arith))
  rises_same (there {y = y} {k = j} s) (there {k = k} t) (one_more p r) = rises_same {low = suc (key y)} s t r ∙ sym (eqb-suc-suc j k)

-- ---- the place of a number, where it is there

-- A number that is not there has no place
place_most : (ns : List ℕ) (n : ℕ) → number_place ns n ≤ length ns
place_most [] n = omega arith
place_most (m ∷ ns) n = go (eqb m n) (place_most ns n)
  where
    go : (b : Bool) → number_place ns n ≤ length ns → elim b [ true ↦ 0 | false ↦ suc (number_place ns n) ] ≤ suc (length ns)
    go true rest = omega arith
    go false rest = omega (arith, rest)

-- What is found is the place, and one of theirs
pub place_found : (ns : List ℕ) (n place : ℕ) → found_place ns n ≡ Some place → (place ≡ number_place ns n) × (place < length ns)
place_found ns n place = go (ltb (number_place ns n) (length ns)) refl
  where
    go : (b : Bool) → ltb (number_place ns n) (length ns) ≡ b → then_some b (number_place ns n) ≡ Some place
        → (place ≡ number_place ns n) × (place < length ns)
    go true l e = let same = same_Some (number_place ns n) place e in (sym same, omega (arith, ltb-true (number_place ns n) (length ns) l))
    go false l e = absurd (none-some place e)

-- Where nothing is found, the place is behind them all
pub place_missing : (ns : List ℕ) (n : ℕ) → found_place ns n ≡ None → number_place ns n ≡ length ns
place_missing ns n = go (ltb (number_place ns n) (length ns)) refl
  where
    go : (b : Bool) → ltb (number_place ns n) (length ns) ≡ b → then_some b (number_place ns n) ≡ None → number_place ns n ≡ length ns
    go true l e = absurd (none-some (number_place ns n) (sym e))
    go false l e = omega (arith, place_most ns n, ltb-false (number_place ns n) (length ns) l)

-- ---- currencies

-- One more, put into its place
placed_rises : {low : ℕ} (c : Currency) (ds : List Currency) → is_currency c ≡ true → Each (λ d. is_currency d ≡ true) ds
    → low ≤ currency_number c → Rises low (map currency_number ds) → Rises low (map currency_number (placed c ds))
placed_rises c [] p nil l no_more = one_more l no_more
placed_rises {low} c (d ∷ ds) p (cons q qs) l (one_more k rest) = go (compared c d) (placed_rises {low = suc (currency_number d)} c ds p qs)
  where
    below : (a b : Currency) → is_currency a ≡ true → is_currency b ≡ true → before a b ≡ true → suc (currency_number a) ≤ currency_number b
    below a b i j e = ltb-true (currency_number a) (currency_number b) (sym (currency_number_before a b i j) ∙ e)

    go : Compared c d → (suc (currency_number d) ≤ currency_number c → Rises (suc (currency_number d)) (map currency_number ds)
        → Rises (suc (currency_number d)) (map currency_number (placed c ds)))
        → Rises low (map currency_number (placed c (d ∷ ds)))
    go (first e) on = rw (placed_first c d ds e) (one_more l (one_more (below c d p q e) rest))
    go (equal e) on = rw (placed_there c d ds e) (one_more k rest)
    go (second e) on = rw (placed_on c d ds e) (one_more k (on (below d c q p e) rest))

-- The numbers of the currencies of rows rise
pub currencies_rise : (ss : List SecurityRow) → Each (λ s. is_currency s.currency ≡ true) ss → Rises 0 (map currency_number (currencies ss))
currencies_rise [] nil = no_more
currencies_rise (s ∷ ss) (cons p ps) =
    placed_rises s.currency (currencies ss) p (each_currency (λ c. is_currency c ≡ true) ss ps) (omega arith) (currencies_rise ss ps)

-- What is put into its place stands there
placed_stands : (c : Currency) (ds : List Currency) → (k : ℕ) × Stands c (placed c ds) k
placed_stands c [] = (0, here)
placed_stands c (d ∷ ds) = go (compared c d) (placed_stands c ds)
  where
    go : Compared c d → (k : ℕ) × Stands c (placed c ds) k → (k : ℕ) × Stands c (placed c (d ∷ ds)) k
    go (first e) on = rw (placed_first c d ds e) (0, here)
    go (equal e) on = rw (placed_there c d ds e, e) (0, here)
    go (second e) on = rw (placed_on c d ds e) (suc on.0, there on.1)

-- The currency of a row stands at the place of its number
pub currency_stands : {s : SecurityRow} {ss : List SecurityRow} {k : ℕ} → Stands s ss k → Rises 0 (map currency_number (currencies ss))
    → Stands s.currency (currencies ss) (number_place (map currency_number (currencies ss)) (currency_number s.currency))
currency_stands {s} {ss} at rise =
    let c = s.currency in
    let (k, stands) = rw (has_currency_lem ss c (stands_found (λ s. same s.currency c) (same_refl c) at)) at (placed_stands c (currencies ss)) in
    rw (rises_place currency_number stands rise) stands

-- ---- codes

-- The numbers of the codes of admitted rows rise
codes_from : (cs : List ClassRow) {low : ℕ} (above ss : List SecurityRow) → T (hold_down (security_kind cs) above ss)
    → ((s : SecurityRow) → T (hold (rules_of (security_kind cs) above s)) → low ≤ code_number s.code) → Rises low (codes_of ss)
codes_from cs above [] h lowest = no_more
codes_from cs {low = low} above (s ∷ ss) h lowest =
    let own : T (hold (rules_of (security_kind cs) above s)) = search tests in
    one_more (lowest s own) (codes_from cs {low = suc (code_number s.code)} (s ∷ above) ss (search tests) (λ r g. behind r own g))
  where
    behind : (r : SecurityRow) → T (hold (rules_of (security_kind cs) above s)) → T (hold (rules_of (security_kind cs) (s ∷ above) r))
        → suc (code_number s.code) ≤ code_number r.code
    behind r own g =
        let rise : every (λ a. before a.code r.code) (s ∷ []) ≡ true = search tests in
        ltb-true (code_number s.code) (code_number r.code)
        (sym (code_number_before s.code r.code (security_facts cs above s own).code (security_facts cs (s ∷ above) r g).code)
        ∙ (every_cons (λ a. before a.code r.code) s [] rise).0)

pub codes_rise : (cs : List ClassRow) (ss : List SecurityRow) → T (hold_down (security_kind cs) [] ss) → Rises 0 (codes_of ss)
codes_rise cs ss h = codes_from cs [] ss h (λ s g. omega arith)
