-- How a number stands among others, and what its rank is good for: it is the place of the one that is there, and where to put one
-- that is not. Then the same of the currencies of S rows, by their numbers.
use Prim.Native.Nat.{ℕ, suc, ◌≤◌, ◌<◌}
use native.Mathlib.Omega.{arith}
use mathlib.Core.Bool.{Bool, true, false, ◌||◌, or-true}
use mathlib.Core.List.{List, [], ◌∷◌, map}
use mathlib.Core.Option.{some}
use mathlib.Core.Path.{◌≡◌, refl, sym, ap, ap₂, ◌∙◌}
use Rattle.std.specs.Prelude.{Result, Ok, Err, is_ok, insert}
use borrow.Author.Tests.{eqb-true, eqb-false, eq-eqb, ne_eqb, ltb-true, ltb-false, lt-ltb, le-ltb}
use lib.Dec.{eqb, ltb}
use lib.ListN.{length, length-map}
use Rattle.paper.specs.Units.{Currency}
use Rattle.paper.specs.Lists.{given, first_that}
use Rattle.paper.specs.Text.{same, before, is_currency}
use Rattle.paper.specs.Rows.{SecurityRow}
use Rattle.paper.specs.Currencies.{placed, currencies, has_currency}
use Rattle.paper.proofs.Lists.{never, Each, nil, cons, each_map}
use Rattle.paper.proofs.Currencies.{has_currency_lem, each_currency}
use Rattle.tables.specs.Numbers.{currency_number, number_place}
use Rattle.tables.proofs.Numbers.{currency_number_before, currency_number_same}
use Rattle.tables.specs.Ranks.{one_further, ranked_of, rank_of}

-- A number is below another, the same, or above it
data Placing (m n : ℕ) : Type 0 where
  lower : m < n → Placing m n
  equal : m ≡ n → Placing m n
  higher : n < m → Placing m n

placing : (m n : ℕ) → Placing m n
placing m n = go (eqb m n) refl (ltb m n) refl
  where
    go : (a : Bool) → eqb m n ≡ a → (b : Bool) → ltb m n ≡ b → Placing m n
    go true e b f = equal (eqb-true m n e)
    go false e true f = lower (ltb-true m n f)
    go false e false f = let other = eqb-false m n e in higher (omega (arith, ltb-false m n f, other))

-- One place further on it is there as before
further_rank : (s : Result ℕ ℕ) → rank_of (one_further s) ≡ suc (rank_of s)
further_rank (Ok rank) = refl
further_rank (Err rank) = refl

further_there : (s : Result ℕ ℕ) → is_ok (one_further s) ≡ is_ok s
further_there (Ok rank) = refl
further_there (Err rank) = refl

module _ (own : ℕ) where
  -- How it stands: behind all that are below it, at the first that is not
  data Stands : List ℕ → Result ℕ ℕ → Type 0 where
    behind : Stands [] (Err 0)
    here : {n : ℕ} {ns : List ℕ} → n ≡ own → Stands (n ∷ ns) (Ok 0)
    ahead : {n : ℕ} {ns : List ℕ} → own < n → Stands (n ∷ ns) (Err 0)
    further : {n : ℕ} {ns : List ℕ} {s : Result ℕ ℕ} → n < own → Stands ns s → Stands (n ∷ ns) (one_further s)

  stands : (ns : List ℕ) → Stands ns (ranked_of ns own)
  stands [] = behind
  stands (n ∷ ns) = go (placing n own) (stands ns)
    where
      go : Placing n own → Stands ns (ranked_of ns own) → Stands (n ∷ ns) (ranked_of (n ∷ ns) own)
      go (lower h) rest = rw (ne_eqb n own (λ e. omega arith), lt-ltb n own h, ranked_of) (further h rest)
      go (equal e) rest = rw (eq-eqb n own e, ranked_of) (here e)
      go (higher h) rest = rw (ne_eqb n own (λ e. omega arith), le-ltb n own (omega arith), ranked_of) (ahead h)

  -- A rank is one of theirs, or the one behind them
  pub rank_most : (ns : List ℕ) → rank_of (ranked_of ns own) ≤ length ns
  rank_most ns = go (stands ns)
    where
      go : {ns : List ℕ} {s : Result ℕ ℕ} → Stands ns s → rank_of s ≤ length ns
      go behind = omega arith
      go (here e) = omega arith
      go (ahead h) = omega arith
      go (further {s = s} h rest) = omega (arith, further_rank s, go rest)

  -- What is there has its own place as its rank
  pub rank_place : (ns : List ℕ) → is_ok (ranked_of ns own) ≡ true → rank_of (ranked_of ns own) ≡ number_place ns own
  rank_place ns = go (stands ns)
    where
      go : {ns : List ℕ} {s : Result ℕ ℕ} → Stands ns s → is_ok s ≡ true → rank_of s ≡ number_place ns own
      go behind t = refl
      go (here {n} e) t = rw (eq-eqb n own e, number_place)
      go (ahead h) t = never t
      go (further {n} {s = s} h rest) t =
          rw (further_rank s, ne_eqb n own (λ e. omega arith), number_place) (ap suc (go rest (sym (further_there s) ∙ t)))

module _ (n : ℕ) (ns : List ℕ) (own : ℕ) where
  -- Whether it is there, by the first
  there_here : n ≡ own → is_ok (ranked_of (n ∷ ns) own) ≡ true
  there_here e = rw (eq-eqb n own e, ranked_of)

  there_ahead : own < n → is_ok (ranked_of (n ∷ ns) own) ≡ false
  there_ahead h = rw (ne_eqb n own (λ e. omega arith), le-ltb n own (omega arith), ranked_of)

  there_on : n < own → is_ok (ranked_of (n ∷ ns) own) ≡ is_ok (ranked_of ns own)
  there_on h = rw (ne_eqb n own (λ e. omega arith), lt-ltb n own h, ranked_of) (further_there (ranked_of ns own))

-- It is not there where all are below it
pub none_there : (own : ℕ) {ns : List ℕ} → Each (λ n. n < own) ns → is_ok (ranked_of ns own) ≡ false
none_there own nil = refl
none_there own (cons {a} {rest} low each) = there_on a rest own low ∙ none_there own each

-- A number put among rising ones, where it is new
abbrev pub in_row : ℕ → List ℕ → List ℕ
in_row n [] = n ∷ []
in_row n (m ∷ ms) = elim (eqb n m) [ true ↦ m ∷ ms | false ↦ elim (ltb n m) [ true ↦ n ∷ m ∷ ms | false ↦ m ∷ in_row n ms ] ]

module _ (n m : ℕ) (ms : List ℕ) where
  row_first : n < m → in_row n (m ∷ ms) ≡ n ∷ m ∷ ms
  row_first h = rw (ne_eqb n m (λ e. omega arith), lt-ltb n m h, in_row)

  row_there : n ≡ m → in_row n (m ∷ ms) ≡ m ∷ ms
  row_there e = rw (eq-eqb n m e, in_row)

  row_on : m < n → in_row n (m ∷ ms) ≡ m ∷ in_row n ms
  row_on h = rw (ne_eqb n m (λ e. omega arith), le-ltb n m (omega arith), in_row)

module _ (own : ℕ) where
  -- What is not there is put in at its rank
  pub row_more : (ns : List ℕ) → is_ok (ranked_of ns own) ≡ false → length (in_row own ns) ≡ suc (length ns)
  row_more ns = go (stands own ns)
    where
      go : {ns : List ℕ} {s : Result ℕ ℕ} → Stands own ns s → is_ok s ≡ false → length (in_row own ns) ≡ suc (length ns)
      go behind t = refl
      go (here e) t = never (sym t)
      go (ahead {n} {ns} h) t = ap length (row_first own n ns h)
      go (further {n} {ns} {s} h rest) t = ap length (row_on own n ns h) ∙ ap suc (go rest (sym (further_there s) ∙ t))

  pub row_put : (ns : List ℕ) → is_ok (ranked_of ns own) ≡ false → insert ns (rank_of (ranked_of ns own)) own ≡ in_row own ns
  row_put ns = go (stands own ns)
    where
      go : {ns : List ℕ} {s : Result ℕ ℕ} → Stands own ns s → is_ok s ≡ false → insert ns (rank_of s) own ≡ in_row own ns
      go behind t = refl
      go (here e) t = never (sym t)
      go (ahead {n} {ns} l) t = sym (row_first own n ns l)
      go (further {n} {ns} {s} l rest) t =
          ap (λ (rank : ℕ). insert (n ∷ ns) rank own) (further_rank s)
          ∙ ap (λ (l : List ℕ). n ∷ l) (go rest (sym (further_there s) ∙ t)) ∙ sym (row_on own n ns l)

-- A number is there where it was put in, or was before
pub there_put : (d : ℕ) (ns : List ℕ) (n : ℕ) → is_ok (ranked_of (in_row d ns) n) ≡ (eqb d n || is_ok (ranked_of ns n))
there_put d [] n = go (placing d n)
  where
    go : Placing d n → is_ok (ranked_of (d ∷ []) n) ≡ (eqb d n || false)
    go (lower l) = there_on d [] n l ∙ sym (rw (ne_eqb d n (λ e. omega arith)))
    go (equal e) = there_here d [] n e ∙ sym (rw (eq-eqb d n e))
    go (higher l) = there_ahead d [] n l ∙ sym (rw (ne_eqb d n (λ e. omega arith)))
there_put d (m ∷ ms) n = go (placing d m) (placing d n) (placing m n) (there_put d ms n)
  where
    go : Placing d m → Placing d n → Placing m n → is_ok (ranked_of (in_row d ms) n) ≡ (eqb d n || is_ok (ranked_of ms n))
        → is_ok (ranked_of (in_row d (m ∷ ms)) n) ≡ (eqb d n || is_ok (ranked_of (m ∷ ms) n))
    go (lower h) (lower l) p rest = rw (row_first d m ms h, ne_eqb d n (λ e. omega arith)) (there_on d (m ∷ ms) n l)
    go (lower h) (equal e) p rest = rw (row_first d m ms h, eq-eqb d n e) (there_here d (m ∷ ms) n e)
    go (lower h) (higher l) p rest = rw (row_first d m ms h, ne_eqb d n (λ e. omega arith), there_ahead m ms n (omega arith)) (there_ahead d (m ∷ ms) n l)
    go (equal e) (equal f) p rest = rw (row_there d m ms e, eq-eqb d n f) (there_here m ms n (sym e ∙ f))
    go (equal e) (lower l) p rest = rw (row_there d m ms e, ne_eqb d n (λ e. omega arith))
    go (equal e) (higher l) p rest = rw (row_there d m ms e, ne_eqb d n (λ e. omega arith))
    go (higher h) q (lower l) rest = rw (row_on d m ms h, there_on m (in_row d ms) n l, there_on m ms n l) rest
    go (higher h) q (equal e) rest = rw (row_on d m ms h, there_here m (in_row d ms) n e, there_here m ms n e) (sym (or-true (eqb d n)))
    go (higher h) q (higher l) rest = rw (row_on d m ms h, there_ahead m (in_row d ms) n l, there_ahead m ms n l, ne_eqb d n (λ e. omega arith))

-- ---- the currencies of S rows

-- A currency is placed as its number is put in
pub placed_numbers : (c : Currency) (ds : List Currency) → is_currency c ≡ true → Each (λ d. is_currency d ≡ true) ds
    → map currency_number (placed c ds) ≡ in_row (currency_number c) (map currency_number ds)
placed_numbers c [] p nil = refl
placed_numbers c (d ∷ ds) p (cons q each) =
    go (same c d) (before c d) (placed_numbers c ds p each) ∙ ap₂ by (currency_number_same c d p q) (currency_number_before c d p q)
  where
    by : Bool → Bool → List ℕ
    by a b = elim a [
      | true ↦ currency_number d ∷ map currency_number ds
      | false ↦ elim b [
        | true ↦ currency_number c ∷ currency_number d ∷ map currency_number ds
        | false ↦ currency_number d ∷ in_row (currency_number c) (map currency_number ds)
      ]
    ]

    go : (a b : Bool) → map currency_number (placed c ds) ≡ in_row (currency_number c) (map currency_number ds)
        → map currency_number (elim a [ true ↦ d ∷ ds | false ↦ elim b [ true ↦ c ∷ d ∷ ds | false ↦ d ∷ placed c ds ] ]) ≡ by a b
    go true b rest = refl
    go false true rest = refl
    go false false rest = ap (λ (l : List ℕ). currency_number d ∷ l) rest

-- The numbers of the currencies of rows
abbrev pub money_of : List SecurityRow → List ℕ
money_of ss = map currency_number (currencies ss)

abbrev pub Currencied : SecurityRow → Type 0
Currencied s = is_currency s.currency ≡ true

-- A row more
money_more : (s : SecurityRow) (ss : List SecurityRow) → Currencied s → Each Currencied ss → money_of (s ∷ ss) ≡ in_row (currency_number s.currency) (money_of ss)
money_more s ss p each = placed_numbers s.currency (currencies ss) p (each_currency (λ d. is_currency d ≡ true) ss each)

-- A currency is there where a row has it
pub rank_has : (ss : List SecurityRow) → Each Currencied ss → (c : Currency) → is_currency c ≡ true
    → is_ok (ranked_of (money_of ss) (currency_number c)) ≡ has_currency ss c
rank_has [] nil c p = refl
rank_has (s ∷ ss) (cons q each) c p =
    ap (λ (ns : List ℕ). is_ok (ranked_of ns (currency_number c))) (money_more s ss q each)
    ∙ there_put (currency_number s.currency) (money_of ss) (currency_number c)
    ∙ ap₂ ◌||◌ (sym (currency_number_same s.currency c q p)) (rank_has ss each c p)
    ∙ go (same s.currency c)
  where
    go : (t : Bool) → (t || has_currency ss c) ≡ given {A = SecurityRow} (elim t [ true ↦ some s | false ↦ first_that (λ s. same s.currency c) ss ])
    go true = refl
    go false = refl

-- So each row's own is there
pub each_there : (ss : List SecurityRow) → Each Currencied ss → Each (λ s. is_ok (ranked_of (money_of ss) (currency_number s.currency)) ≡ true) ss
each_there [] nil = nil
each_there (s ∷ ss) (cons q each) =
    cons (put s ∙ rw (eq-eqb own own refl))
    (each_map (λ r there. let its = eqb own (currency_number r.currency) in put r ∙ ap (λ (b : Bool). its || b) there ∙ or-true its) (each_there ss each))
  where
    own : ℕ
    own = currency_number s.currency

    put : (r : SecurityRow) → is_ok (ranked_of (money_of (s ∷ ss)) (currency_number r.currency))
        ≡ (eqb own (currency_number r.currency) || is_ok (ranked_of (money_of ss) (currency_number r.currency)))
    put r =
        ap (λ (ns : List ℕ). is_ok (ranked_of ns (currency_number r.currency))) (money_more s ss q each)
        ∙ there_put own (money_of ss) (currency_number r.currency)

-- A row more and the currencies of the rows above, where its own is there and where it is not
module _ (ss : List SecurityRow) (each : Each Currencied ss) (s : SecurityRow) (p : Currencied s) where
  abbrev standing : Result ℕ ℕ
  standing = ranked_of (money_of ss) (currency_number s.currency)

  pub money_known : is_ok standing ≡ true → currencies (s ∷ ss) ≡ currencies ss
  money_known t = has_currency_lem ss s.currency (sym (rank_has ss each s.currency p) ∙ t)

  module _ (t : is_ok standing ≡ false) where
    pub money_longer : length (currencies (s ∷ ss)) ≡ suc (length (currencies ss))
    money_longer =
        sym (length-map (currencies (s ∷ ss)) currency_number) ∙ ap length (money_more s ss p each)
        ∙ row_more (currency_number s.currency) (money_of ss) t ∙ ap suc (length-map (currencies ss) currency_number)

    -- ... to whose numbers its own is put at its rank
    pub money_new : insert (money_of ss) (rank_of standing) (currency_number s.currency) ≡ money_of (s ∷ ss)
    money_new = row_put (currency_number s.currency) (money_of ss) t ∙ sym (money_more s ss p each)
