-- Laws of the currencies of a sheet: in whatever order S rows come they have the same currencies, and the rules allow eight.
use Prim.Native.Nat.{suc, ◌≤◌, ◌<◌}
use native.Mathlib.Nat.{le_refl, le_of_eq}
use native.Mathlib.Omega.{arith}
use mathlib.Core.Bool.{Bool, true, false, ◌||◌}
use mathlib.Core.List.{List, [], ◌∷◌, ◌++◌, reverse, reverse_aux, reverse-cons}
use mathlib.Core.Path.{◌≡◌, refl, sym, ap, ◌∙◌, subst}
use lib.Dec.{T, ltb, ltb→lt}
use lib.ListN.{length}
use Rattle.paper.specs.Units.{Currency}
use Rattle.paper.specs.Lists.{first_that, Each, nil, cons}
use Rattle.paper.specs.Text.{same, before}
use Rattle.paper.specs.Rows.{ClassRow, SecurityRow}
use Rattle.paper.specs.Currencies.{placed, currencies, has_currency}
use Rattle.paper.specs.Refusals.{rules_of, security_kind}
use Rattle.paper.specs.Tables.{hold, hold_down}
use Rattle.paper.proofs.Lists.{tests, never, each_first, each_rest, Among, among_on}
use Rattle.paper.proofs.Order.{same_true, same_refl, before_trans, before_not_after, before_not_same, after_not_same, Compared, first, equal, second, compared}

-- ---- how a currency is placed: it is there, comes first, or goes further on

pub placed_there : (c d : Currency) (ds : List Currency) → c ≡ d → placed c (d ∷ ds) ≡ d ∷ ds
placed_there c d ds e = rw (ap (same c) (sym e) ∙ same_refl c, placed)

pub placed_first : (c d : Currency) (ds : List Currency) → before c d ≡ true → placed c (d ∷ ds) ≡ c ∷ d ∷ ds
placed_first c d ds e = rw (before_not_same c d e, e, placed)

pub placed_on : (c d : Currency) (ds : List Currency) → before d c ≡ true → placed c (d ∷ ds) ≡ d ∷ placed c ds
placed_on c d ds e = rw (after_not_same c d e, before_not_after d c e, placed)

-- ---- two currencies may be placed in either order

-- ... the lower one given first: by where the higher one goes
rising_commute : (a b : Currency) → before a b ≡ true → (ds : List Currency) → placed a (placed b ds) ≡ placed b (placed a ds)
rising_commute a b l [] = placed_first a b [] l ∙ sym (placed_on b a [] l)
rising_commute a b l (d ∷ ds) = by_higher (compared b d) (rising_commute a b l ds)
  where
    -- The higher one goes behind the lower one, where that comes first
    behind : before a d ≡ true → placed b (placed a (d ∷ ds)) ≡ a ∷ placed b (d ∷ ds)
    behind k = ap (placed b) (placed_first a d ds k) ∙ placed_on b a (d ∷ ds) l

    by_lower : before d b ≡ true → placed a (placed b ds) ≡ placed b (placed a ds) → Compared a d
        → placed a (d ∷ placed b ds) ≡ placed b (placed a (d ∷ ds))
    by_lower k rest (first e) = placed_first a d (placed b ds) e ∙ sym (behind e ∙ ap (λ (l : List Currency). a ∷ l) (placed_on b d ds k))
    by_lower k rest (equal e) = placed_there a d (placed b ds) e ∙ sym (ap (placed b) (placed_there a d ds e) ∙ placed_on b d ds k)
    by_lower k rest (second e) =
        placed_on a d (placed b ds) e ∙ ap (λ (l : List Currency). d ∷ l) rest
        ∙ sym (ap (placed b) (placed_on a d ds e) ∙ placed_on b d (placed a ds) k)

    by_higher : Compared b d → placed a (placed b ds) ≡ placed b (placed a ds)
        → placed a (placed b (d ∷ ds)) ≡ placed b (placed a (d ∷ ds))
    by_higher (first e) rest =
        ap (placed a) (placed_first b d ds e) ∙ placed_first a b (d ∷ ds) l
        ∙ sym (behind (before_trans a b d l e) ∙ ap (λ (l : List Currency). a ∷ l) (placed_first b d ds e))
    by_higher (equal e) rest =
        let k : before a d ≡ true = sym (ap (before a) e) ∙ l in
        ap (placed a) (placed_there b d ds e) ∙ placed_first a d ds k
        ∙ sym (behind k ∙ ap (λ (l : List Currency). a ∷ l) (placed_there b d ds e))
    by_higher (second e) rest = ap (placed a) (placed_on b d ds e) ∙ by_lower e rest (compared a d)

placed_commutes : (a b : Currency) (ds : List Currency) → placed a (placed b ds) ≡ placed b (placed a ds)
placed_commutes a b ds = go (compared a b)
  where
    go : Compared a b → placed a (placed b ds) ≡ placed b (placed a ds)
    go (first e) = rising_commute a b e ds
    go (equal e) = ap (λ (c : Currency). placed c (placed b ds)) e ∙ ap (λ (c : Currency). placed b (placed c ds)) (sym e)
    go (second e) = sym (rising_commute b a e ds)

-- One that is placed again is there
placed_again : (c : Currency) (ds : List Currency) → placed c (placed c ds) ≡ placed c ds
placed_again c [] = placed_there c c [] refl
placed_again c (d ∷ ds) = go (compared c d) (placed_again c ds)
  where
    go : Compared c d → placed c (placed c ds) ≡ placed c ds → placed c (placed c (d ∷ ds)) ≡ placed c (d ∷ ds)
    go (first e) rest = ap (placed c) (placed_first c d ds e) ∙ placed_there c c (d ∷ ds) refl ∙ sym (placed_first c d ds e)
    go (equal e) rest = ap (placed c) (placed_there c d ds e)
    go (second e) rest =
        ap (placed c) (placed_on c d ds e) ∙ placed_on c d (placed c ds) e
        ∙ ap (λ (l : List Currency). d ∷ l) rest ∙ sym (placed_on c d ds e)

-- ---- the currencies of rows

-- A row more, wherever it stands
currencies_last : (ss : List SecurityRow) (s : SecurityRow) → currencies (ss ++ (s ∷ [])) ≡ placed s.currency (currencies ss)
currencies_last [] s = refl
currencies_last (r ∷ ss) s =
    ap (placed r.currency) (currencies_last ss s) ∙ placed_commutes r.currency s.currency (currencies ss)

-- Rows in the reverse order have the same currencies
pub currencies_reverse : (ss : List SecurityRow) → currencies (reverse ss) ≡ currencies ss
currencies_reverse [] = refl
currencies_reverse (s ∷ ss) =
    ap currencies (reverse-cons s ss) ∙ currencies_last (reverse ss) s ∙ ap (placed s.currency) (currencies_reverse ss)

-- A currency that a row has is there
pub has_currency_lem : (ss : List SecurityRow) (c : Currency) → has_currency ss c ≡ true → placed c (currencies ss) ≡ currencies ss
has_currency_lem [] c e = never e
has_currency_lem (s ∷ ss) c e = go (same s.currency c) refl (has_currency_lem ss c)
  where
    go : (x : Bool) → same s.currency c ≡ x → (has_currency ss c ≡ true → placed c (currencies ss) ≡ currencies ss)
        → placed c (placed s.currency (currencies ss)) ≡ placed s.currency (currencies ss)
    go true k rest =
        rw (same_true s.currency c k) (placed_again c (currencies ss))
    go false k rest =
        placed_commutes c s.currency (currencies ss)
        ∙ ap (placed s.currency) (rest (rw (k, first_that) at e))

-- A currency that is placed is among them
placed_among : (c : Currency) (ds : List Currency) → Among c (placed c ds)
placed_among c [] = ([], [], refl)
placed_among c (d ∷ ds) = go (compared c d) (placed_among c ds)
  where
    go : Compared c d → Among c (placed c ds) → Among c (placed c (d ∷ ds))
    go (first e) rest = ([], d ∷ ds, placed_first c d ds e)
    go (equal e) rest = ([], ds, placed_there c d ds e ∙ ap (λ (b : Currency). b ∷ ds) (sym e))
    go (second e) rest = subst (Among c) (sym (placed_on c d ds e)) (among_on d rest)

-- So is one that a row has
pub currency_among : (ss : List SecurityRow) (c : Currency) → has_currency ss c ≡ true → Among c (currencies ss)
currency_among ss c e = subst (Among c) (has_currency_lem ss c e) (placed_among c (currencies ss))

-- A currency placed makes one more at most
placed_length : (c : Currency) (ds : List Currency) → length (placed c ds) ≤ suc (length ds)
placed_length c [] = le_refl 1
placed_length c (d ∷ ds) = go (compared c d) (placed_length c ds)
  where
    go : Compared c d → length (placed c ds) ≤ suc (length ds) → length (placed c (d ∷ ds)) ≤ suc (length (d ∷ ds))
    go (first e) rest = le_of_eq (ap length (placed_first c d ds e))
    go (equal e) rest = omega (arith, ap length (placed_there c d ds e))
    go (second e) rest = omega (arith, ap length (placed_on c d ds e), rest)

-- ---- at most eight

-- The rules of an S row keep it so
row_few : (cs : List ClassRow) (above : List SecurityRow) (s : SecurityRow) → T (hold (rules_of (security_kind cs) above s))
    → length (currencies above) ≤ 8 → length (currencies (s ∷ above)) ≤ 8
row_few cs above s h few = go (has_currency above s.currency) refl
  where
    eighth : T (has_currency above s.currency || ltb (length (currencies above)) 8)
    eighth = search tests depth 8

    go : (t : Bool) → has_currency above s.currency ≡ t → length (placed s.currency (currencies above)) ≤ 8
    go true e = rw (has_currency_lem above s.currency e) few
    go false e =
        let fewer : length (currencies above) < 8 = ltb→lt (length (currencies above)) 8 (rw e at eighth) in
        omega (arith, placed_length s.currency (currencies above))

rows_few : (cs : List ClassRow) (above ss : List SecurityRow) → T (hold_down (security_kind cs) above ss)
    → length (currencies above) ≤ 8 → length (currencies (reverse_aux ss above)) ≤ 8
rows_few cs above [] h few = few
rows_few cs above (s ∷ ss) h few =
    rows_few cs (s ∷ above) ss (search tests) (row_few cs above s (search tests) few)

-- Admitted tables have eight currencies at most
pub few_currencies : (cs : List ClassRow) (ss : List SecurityRow) → T (hold_down (security_kind cs) [] ss)
    → length (currencies ss) ≤ 8
few_currencies cs ss h =
    subst (λ (l : List Currency). length l ≤ 8) (currencies_reverse ss) (rows_few cs [] ss h (omega arith))

-- Placing keeps what is true of each
placed_each : (P : Currency → Type 0) (c : Currency) (ds : List Currency) → P c → Each P ds → Each P (placed c ds)
placed_each P c [] p each = cons p nil
placed_each P c (d ∷ ds) p each = go (compared c d) (placed_each P c ds p (each_rest each))
  where
    go : Compared c d → Each P (placed c ds) → Each P (placed c (d ∷ ds))
    go (first e) rest = subst (Each P) (sym (placed_first c d ds e)) (cons p each)
    go (equal e) rest = subst (Each P) (sym (placed_there c d ds e)) each
    go (second e) rest = subst (Each P) (sym (placed_on c d ds e)) (cons (each_first each) rest)

-- What is true of each row's currency is true of each currency
pub each_currency : (P : Currency → Type 0) (ss : List SecurityRow) → Each (λ s. P s.currency) ss → Each P (currencies ss)
each_currency P [] each = nil
each_currency P (s ∷ ss) each =
    placed_each P s.currency (currencies ss) (each_first each) (each_currency P ss (each_rest each))
