-- The table of the securities: its codes can be searched where they rise, and the coupon period that a code has in it is the
-- paper's.
use Prim.Native.Nat.{ℕ, zero, suc, ◌+◌, ◌-◌, ◌≤◌, ◌<◌}
use native.Mathlib.Omega.{arith}
use mathlib.Core.Bool.{Bool, true, false}
use mathlib.Core.List.{List, [], ◌∷◌, ◌++◌}
use mathlib.Core.Option.{none, some}
use mathlib.Core.Path.{◌≡◌, refl, sym, ap, ◌∙◌, subst}
use borrow.Author.Tests.{lt-ltb, le-ltb}
use lib.Dec.{T, eqb}
use lib.ListN.{length, get_or, take, replicate, length-map, get_or-replicate}
use lib.Seq.{get_or-take, get_or-append-add}
use Rattle.paper.specs.Units.{Code}
use Rattle.paper.specs.Lists.{first_that, Each, nil, cons}
use Rattle.paper.specs.Text.{same, is_code}
use Rattle.paper.specs.Rows.{ClassRow, SecurityRow}
use Rattle.paper.specs.Currencies.{currencies}
use Rattle.paper.specs.Valuation.{security_of}
use Rattle.paper.specs.Refusals.{period_of, security_kind}
use Rattle.paper.specs.Tables.{hold_down}
use Rattle.paper.proofs.Lists.{never, made_at, each_map, each_at, each_made}
use Rattle.paper.proofs.Rules.{SecurityFacts, security_facts, each_holds, securities_at_most}
use Rattle.paper.proofs.Order.{same_true}
use Rattle.tables.specs.Numbers.{code_number, highest, number_place}
use Rattle.tables.specs.Blanks.{no_security}
use Rattle.tables.specs.Held.{held_security, codes_of, security_table}
use Rattle.tables.proofs.Numbers.{code_number_low, code_number_same}
use Rattle.tables.proofs.Padded as padded
use Rattle.tables.proofs.Places.{Rises, no_more, one_more, codes_rise}
use Rattle.tables.specs.Ranks.{Searchable}
use Rattle.trades.specs.Found.{period_in}

-- The row of a code, at the place of its number
data Sought (rs : List SecurityRow) (c : Code) (place : ℕ) : Type 0 where
  sought : (row : SecurityRow) → place < length rs → security_of rs c ≡ some row → get_or rs place row ≡ row → Sought rs c place
  missed : place ≡ length rs → security_of rs c ≡ none → Sought rs c place

module _ (c : Code) where
  seek : is_code c ≡ true → (rs : List SecurityRow) → Each (λ s. is_code s.code ≡ true) rs → Sought rs c (number_place (codes_of rs) (code_number c))
  seek is [] nil = missed refl refl
  seek is (s ∷ rs) (cons coded each) = go (same s.code c) refl (seek is rs each)
    where
      one : eqb (code_number s.code) (code_number c) ≡ same s.code c
      one = sym (code_number_same s.code c coded is)

      go : (b : Bool) → same s.code c ≡ b → Sought rs c (number_place (codes_of rs) (code_number c))
          → Sought (s ∷ rs) c (number_place (codes_of (s ∷ rs)) (code_number c))
      go true e rest = rw (one ∙ e, number_place) (sought s (omega arith) (rw (e, first_that)) refl)
      go false e (sought row h f g) = rw (one ∙ e, number_place) (sought row (omega arith) (rw (e, first_that) f) g)
      go false e (missed h f) = rw (one ∙ e, number_place) (missed (ap suc h) (rw (e, first_that) f))

  -- What is no code is found nowhere
  absent : is_code c ≡ false → (rs : List SecurityRow) → Each (λ s. is_code s.code ≡ true) rs → security_of rs c ≡ none
  absent other [] nil = refl
  absent other (s ∷ rs) (cons coded each) = go (same s.code c) refl (absent other rs each)
    where
      go : (b : Bool) → same s.code c ≡ b → security_of rs c ≡ none → security_of (s ∷ rs) c ≡ none
      go true e rest = never (sym other ∙ ap is_code (sym (same_true s.code c e)) ∙ coded)
      go false e rest = rw (e, first_that) rest

-- Numbers that rise, at their places
rises_low : {low : ℕ} {ns : List ℕ} → Rises low ns → (j : ℕ) → j < length ns → low ≤ get_or ns j 0
rises_low no_more j h = absurd (omega arith)
rises_low (one_more p r) zero h = p
rises_low (one_more p r) (suc j) h = omega (arith, p, rises_low r j (omega arith))

rises_at : {low : ℕ} {ns : List ℕ} → Rises low ns → (i j : ℕ) → i < j → j < length ns → get_or ns i 0 < get_or ns j 0
rises_at no_more i j h l = absurd (omega arith)
rises_at (one_more p r) i zero h l = absurd (omega arith)
rises_at (one_more p r) zero (suc j) h l = rises_low r j (omega arith)
rises_at (one_more p r) (suc i) (suc j) h l = rises_at r i j (omega arith) (omega arith)

-- S rows that keep the rules
module _ (cs : List ClassRow) (ss : List SecurityRow) (down : T (hold_down (security_kind cs) [] ss)) where
  few : length ss ≤ 200
  few = securities_at_most cs ss down

  coded : Each (λ s. is_code s.code ≡ true) ss
  coded = each_map (λ s f. f.code) (each_holds (security_kind cs) SecurityFacts (security_facts cs) [] ss down)

  as_many : length (security_table cs ss).rows.items ≡ length ss
  as_many = length-map ss (held_security cs (currencies ss))

  front : take (length ss) (security_table cs ss).codes ≡ codes_of ss
  front = padded.codes_front ss (omega (arith, few))

  -- The codes stand in front
  pub codes_front : take (length (security_table cs ss).rows.items) (security_table cs ss).codes ≡ codes_of ss
  codes_front = ap (λ (n : ℕ). take n (security_table cs ss).codes) as_many ∙ front

  code_at : (i : ℕ) → i < length ss → get_or (security_table cs ss).codes i 0 ≡ get_or (codes_of ss) i 0
  code_at i h = sym (get_or-take (length ss) (security_table cs ss).codes i 0 h) ∙ ap (λ (l : List ℕ). get_or l i 0) front

  -- The highest number stands behind them
  code_behind : (i : ℕ) → length ss ≤ i → i < 256 → get_or (security_table cs ss).codes i 0 ≡ highest
  code_behind i h k =
      let size = length-map ss (λ s. code_number s.code) in
      let behind : i ≡ length (codes_of ss) + (i - length ss) = omega (arith, size) in
      get_or-take 256 (codes_of ss ++ replicate 256 highest) i 0 k
      ∙ ap (λ (n : ℕ). get_or (codes_of ss ++ replicate 256 highest) n 0) behind
      ∙ get_or-append-add (codes_of ss) (replicate 256 highest) (i - length ss) 0
      ∙ get_or-replicate 256 (i - length ss) highest 0 (omega arith)

  searchable : Searchable (security_table cs ss).codes (length ss)
  searchable =
      let size = length-map ss (λ s. code_number s.code) in
      let numbers : Each (λ n. n < highest) (codes_of ss) = each_made _ ss (each_map (λ s is. code_number_low s.code is) coded) in
      record {
        rise = λ i j h k. omega (arith, code_at i (omega arith), code_at j k, rises_at (codes_rise cs ss down) i j h (omega (arith, size)));
        low = λ i h. omega (arith, code_at i h, each_at i 0 numbers (omega (arith, size)));
        rest = code_behind;
      }

  -- What is asked of a table to find codes in it
  pub codes_searchable : (length (security_table cs ss).rows.items ≤ 200) × Searchable (security_table cs ss).codes (length (security_table cs ss).rows.items)
  codes_searchable = (omega (arith, few, as_many), subst (Searchable (security_table cs ss).codes) (sym as_many) searchable)

  -- A row by its place
  row_at : (i : ℕ) (row : SecurityRow) → i < length ss → get_or ss i row ≡ row
      → get_or (security_table cs ss).rows.items i no_security ≡ held_security cs (currencies ss) row
  row_at i row h is =
      made_at (held_security cs (currencies ss)) ss i no_security row h
      ∙ ap (held_security cs (currencies ss)) is

  period_at : (c : Code) → period_in (security_table cs ss) c ≡ period_of ss c
  period_at c = go (is_code c) refl
    where
      found : is_code c ≡ true → Sought ss c (number_place (codes_of ss) (code_number c)) → period_in (security_table cs ss) c ≡ period_of ss c
      found is (sought row h f g) = rw (as_many, front, is, lt-ltb (number_place (codes_of ss) (code_number c)) (length ss) h, row_at (number_place (codes_of ss) (code_number c)) row h g, f)
      found is (missed h f) = rw (as_many, front, is, le-ltb (number_place (codes_of ss) (code_number c)) (length ss) (omega arith), f)

      go : (b : Bool) → is_code c ≡ b → period_in (security_table cs ss) c ≡ period_of ss c
      go true e = found e (seek c e ss coded)
      go false e = rw (e, absent c e ss coded)

  pub periods_found : period_in (security_table cs ss) ≡ period_of ss
  periods_found = λ i c. period_at c i
