-- A question about admitted tables, and the explanation's text of them, as the code holds them, are the paper's.
use Prim.Native.Nat.{ℕ, zero, suc, ◌+◌, ◌<◌}
use native.Mathlib.Omega.{arith}
use mathlib.Core.Bool.{Bool, true, false, ◌&&◌}
use mathlib.Core.List.{List, [], ◌∷◌, ◌++◌, map}
use mathlib.Core.Option as paper
use mathlib.Core.Option.{none, some}
use mathlib.Core.Path.{◌≡◌, refl, sym, ap, ap₂, ◌∙◌, subst, subst⁻¹}
use Rattle.std.specs.Prelude.{Option, Some, None, is_some, Result, Ok, Err, is_ok}
use Rattle.std.specs.Bool.{then_some}
use lib.Dec.{eqb}
use lib.ListN.{length, get_or, take, length-map}
use lib.Seq.{take_all}
use Rattle.paper.specs.Units.{Text, Line, Class, Code, Currency, SignedCents}
use Rattle.paper.specs.Lists.{only, when, first_that, joined_up}
use Rattle.paper.specs.Rounding.{rounded}
use Rattle.paper.specs.Text.{same, is_currency}
use Rattle.paper.specs.Rows.{ClassRow, PriorityRow, SecurityRow, Tables}
use Rattle.paper.specs.Currencies.{currencies, has_currency}
use Rattle.paper.specs.Valuation.{valued_in}
use Rattle.paper.specs.Refusals.{has_class}
use Rattle.paper.specs.Offsetting.{Netted, netted_in, Book, offset_row, Turn, turns, offset_all, opening_in}
use Rattle.paper.specs.Explanation.{is_net, listed, took_at, took_from, took_any, priorities_line, explanation_of, net_line, took_line, explanation_text}
use Rattle.paper.specs.Answer.{has_both}
use Rattle.paper.specs.Tables.{Admitted}
use Rattle.paper.proofs.Lists.{never, both, given_some, first_passes, each_map, each_found, only_kept, only_left, take_map}
use Rattle.paper.proofs.Order.{same_true}
use Rattle.paper.proofs.Rules.{class_range}
use Rattle.paper.proofs.Totals.{table_facts}
use Rattle.tables.specs.Numbers.{currency_number, code_number, highest, number_place}
use Rattle.tables.specs.Held.{held_class, held_security, held_tables}
use Rattle.tables.specs.Ranks.{ranked_of, rank_of as rank_found}
use Rattle.tables.specs.declared.Security.{Security}
use Rattle.tables.proofs.Numbers.{currency_number_same}
use Rattle.tables.proofs.Backs.{table_classes}
use Rattle.tables.proofs.Places.{Stands, stands_low, stands_each, first_stands, currency_stands}
use Rattle.tables.proofs.Ranks.{money_of, rank_place, rank_has}
use Rattle.codes.specs.Counts.{currency_in}
use Rattle.offsetting.specs.Books.{row_of}
use Rattle.margin.specs.Openings.{from_rank}
use Rattle.margin.specs.Figures.{opening_of, opening_book}
use Rattle.margin.proofs.Forwards.{ranks_made}
use Rattle.margin.proofs.Trades.{security_held}
use Rattle.margin.proofs.Paper.{letters, rising_currencies, currencies_few, rank_of, opening_worth, opening_held, priorities_paper, tables_ranged}
use Rattle.lines.specs.Written.{code_text, security_line}
use Rattle.lines.proofs.Spelled.{code_text_lem}
use Rattle.report.proofs.Columns.{stands_held}
use Rattle.reasons.specs.Texts.{asked_of, net_line_if, net_text, taken_line_if, row_text, row_text_at, left_by, setter_text, remaining_text, reason_text, Explainable}

-- ---- the question

module _ (t : Tables) (admitted : Admitted t) where
  module _ (c : Text) where
    -- A row that has a currency
    record Row : Type 0 where
      pub row : SecurityRow
      pub found : first_that (λ s. same s.currency c) t.securities ≡ some row
      pub own : row.currency ≡ c

    has_row : has_currency t.securities c ≡ true → Row
    has_row has =
        let (s, found) = given_some (first_that (λ s. same s.currency c) t.securities) has in
        record { row = s; found = found; own = same_true s.currency c (first_passes (λ s. same s.currency c) t.securities s found) }

    -- So what is a currency of the sheet is three letters
    has_letters : has_currency t.securities c ≡ true → is_currency c ≡ true
    has_letters has =
        let r = has_row has in
        subst (λ (c : Text). is_currency c ≡ true) r.own (each_found (λ s. same s.currency c) t.securities (letters t admitted) r.row r.found)

    -- What is not, no row has
    no_row : is_currency c ≡ false → has_currency t.securities c ≡ false
    no_row e = go (has_currency t.securities c) refl
      where
        go : (b : Bool) → has_currency t.securities c ≡ b → has_currency t.securities c ≡ false
        go true k = never (sym e ∙ has_letters k)
        go false k = k

    -- How its number stands among those of the currencies
    abbrev standing : Result ℕ ℕ
    standing = ranked_of (money_of t.securities) (currency_number c)

    -- A currency that is there stands at its rank
    found_stands : is_currency c ≡ true → {rank : ℕ} → standing ≡ Ok rank → Stands c (currencies t.securities) rank
    found_stands e {rank} f =
        let there = ap is_ok f in
        let r = has_row (sym (rank_has t.securities (letters t admitted) c e) ∙ there) in
        let place : rank ≡ number_place (money_of t.securities) (currency_number c) =
        sym (ap rank_found f) ∙ rank_place (currency_number c) (money_of t.securities) there in
        let at = first_stands (λ s. currency_number s.currency) (currency_number c) (λ s. same s.currency c)
        (each_map (λ s p. currency_number_same s.currency c p e) (letters t admitted)) r.row r.found in
        rw place (subst (λ (d : Currency). Stands d (currencies t.securities) (number_place (money_of t.securities) (currency_number d))) r.own (currency_stands at (rising_currencies t admitted)))

    module _ (n : Class) where
      -- What a question about the currency and a class finds
      data Found : Option ℕ → Type 0 where
        lacking : has_both t c n ≡ false → Found None
        ranked : {rank : ℕ} → has_both t c n ≡ true → Stands c (currencies t.securities) rank → Found (Some rank)

      -- By the letters, the standing and the class
      abbrev answered : Bool → Result ℕ ℕ → Bool → Option ℕ
      answered b s class = elim b [ false ↦ None | true ↦ elim s [ Ok rank ↦ then_some class rank | Err rank ↦ None ] ]

      answered_found : (b : Bool) → is_currency c ≡ b → (s : Result ℕ ℕ) → standing ≡ s → (class : Bool) → has_class t.classes n ≡ class
          → Found (answered b s class)
      answered_found false e s f class k = lacking (rw (no_row e))
      answered_found true e (Err rank) f class k = lacking (rw (sym (rank_has t.securities (letters t admitted) c e) ∙ ap is_ok f))
      answered_found true e (Ok rank) f false k = lacking (ap₂ ◌&&◌ (sym (rank_has t.securities (letters t admitted) c e) ∙ ap is_ok f) k)
      answered_found true e (Ok rank) f true k =
          ranked (ap₂ ◌&&◌ (sym (rank_has t.securities (letters t admitted) c e) ∙ ap is_ok f) k) (found_stands e f)

      -- So it is in the code
      asked_answered : asked_of (held_tables t) c n ≡ answered (is_currency c) standing (has_class t.classes n)
      asked_answered =
          ap (λ (cs : List ClassRow). by (has_class cs n) (currency_in c)) (table_classes t.classes admitted.1)
          ∙ go (is_currency c)
        where
          by : Bool → paper.Option ℕ → Option ℕ
          by class none = None
          by class (some own) = elim (ranked_of (money_of t.securities) own) [ Ok rank ↦ then_some class rank | Err rank ↦ None ]

          go : (b : Bool) → by (has_class t.classes n) (when b (currency_number c)) ≡ answered b standing (has_class t.classes n)
          go true = refl
          go false = refl

      found : Found (asked_of (held_tables t) c n)
      found =
          subst⁻¹ Found asked_answered (answered_found (is_currency c) refl standing refl (has_class t.classes n) refl)

      -- A question is answered exactly where the sheet has the currency and the class
      pub asked_there : is_some (asked_of (held_tables t) c n) ≡ has_both t c n
      asked_there = go found
        where
          go : {o : Option ℕ} → Found o → is_some o ≡ has_both t c n
          go (lacking e) = sym e
          go (ranked e at) = sym e

      module _ {rank : ℕ} (is : asked_of (held_tables t) c n ≡ Some rank) where
        -- Then the currency stands at the rank
        pub asked_stands : Stands c (currencies t.securities) rank
        asked_stands = go found is
          where
            go : {o : Option ℕ} → Found o → o ≡ Some rank → Stands c (currencies t.securities) rank
            go (lacking e) k = absurd (cc)
            go (ranked {rank = other} e at) k = let same : other ≡ rank = cc in rw (← same) at

        -- ... and it can be explained
        pub explainable_held : Explainable (held_tables t) rank n
        explainable_held =
            let has = sym asked_there ∙ ap is_some is in
            let class = (both (has_currency t.securities c) (has_class t.classes n) has).1 in
            record {
              ranged = (tables_ranged t admitted).0;
              rank_low = omega (arith, stands_low asked_stands, currencies_few t admitted);
              class_low = (class_range t.classes n (table_facts t admitted).classes class).1;
            }

-- ---- the R lines

-- What is made of ranks is the same where it is so of each of them
ranks_same : {A : Type 0} (make other : ℕ → A) (many rank : ℕ) → ((i : ℕ) → i < rank + many → make i ≡ other i) → from_rank make many rank ≡ from_rank other many rank
ranks_same make other zero rank same = refl
ranks_same {A} make other (suc many) rank same =
    ap₂ (λ (a : A) (l : List A). a ∷ l) (same rank (omega arith)) (ranks_same make other many (suc rank) (λ i low. same i (omega arith)))

-- What is made of ranks, a rank further on
ranks_behind : {A : Type 0} (make other : ℕ → A) → ((i : ℕ) → make (suc i) ≡ other i) → (many rank : ℕ)
    → from_rank make many (suc rank) ≡ from_rank other many rank
ranks_behind make other same zero rank = refl
ranks_behind {A} make other same (suc many) rank = ap₂ (λ (a : A) (l : List A). a ∷ l) (same rank) (ranks_behind make other same many (suc rank))

-- The R line of a row that took something, none for another: as the paper lists it
took_first : (n : Class) (at : Line) (u : Turn) (us : List Turn)
    → row_text at n u.met u.left ++ joined_up (map took_line (only took_any (took_from n (suc at) us))) ≡ joined_up (map took_line (only took_any (took_from n at (u ∷ us))))
took_first n at u us = go (took_any (took_at n at u)) refl
  where
    go : (b : Bool) → took_any (took_at n at u) ≡ b
        → row_text at n u.met u.left ++ joined_up (map took_line (only took_any (took_from n (suc at) us))) ≡ joined_up (map took_line (only took_any (took_from n at (u ∷ us))))
    go true e = rw (e, taken_line_if, only_kept took_any (took_at n at u) (took_from n (suc at) us) e)
    go false e = rw (e, taken_line_if, only_left took_any (took_at n at u) (took_from n (suc at) us) e)

-- The text of the row at a place, of rows that begin with a book at a line
abbrev row_took : Class → Line → List PriorityRow → Book → ℕ → Text
row_took n at os b i = row_text (at + i) n (offset_all (take i os) b) (offset_all (take (suc i) os) b)

-- The R lines of all rows are those that the walk lists
rows_told : (n : Class) (os : List PriorityRow) (at : Line) (b : Book)
    → joined_up (from_rank (row_took n at os b) (length os) 0) ≡ joined_up (map took_line (only took_any (took_from n at (turns os b))))
unfolding offset_all
rows_told n [] at b = refl
rows_told n (o ∷ os) at b =
    let start : at + 0 ≡ at = omega arith in
    let left = offset_row o b in
    ap₂ (λ (line : Line) (l : Text). row_text line n b left ++ l) start
    (ap joined_up (ranks_behind (row_took n at (o ∷ os) b) (row_took n (suc at) os left) (λ i. let same : at + suc i ≡ suc at + i = omega arith in ap (λ (line : Line). row_text line n (offset_all (take i os) left) (offset_all (take (suc i) os) left)) same) (length os) 0)
    ∙ rows_told n os (suc at) left)
    ∙ took_first n at (record { met = b; left = left }) (turns os left)

-- ---- the P lines

module _ (c : Currency) (n : Class) (net : SecurityRow → Netted) where
  -- The P line of a security, where it is of the currency and the class and has a net
  abbrev pub net_piece : SecurityRow → Text
  net_piece s = elim ((same s.currency c && eqb (net s).class n) && is_net (net s).net) [ true ↦ net_line (net s) | false ↦ [] ]

  -- None for one of another currency
  piece_other : (s : SecurityRow) → same s.currency c ≡ false → net_piece s ≡ []
  piece_other s e = ap (λ (b : Bool). elim ((b && eqb (net s).class n) && is_net (net s).net) [ true ↦ net_line (net s) | false ↦ [] ]) e

  -- For one of the currency, its line where it is listed
  piece_own : (s : SecurityRow) → same s.currency c ≡ true → {b : Bool} → listed n (net s) ≡ b → net_piece s ≡ elim b [ true ↦ net_line (net s) | false ↦ [] ]
  piece_own s e k =
      ap (λ (b : Bool). elim ((b && eqb (net s).class n) && is_net (net s).net) [ true ↦ net_line (net s) | false ↦ [] ]) e
      ∙ ap (λ (b : Bool). elim b [ true ↦ net_line (net s) | false ↦ [] ]) k

  -- The nets of the securities of the currency
  abbrev own : List SecurityRow → List Netted
  own ss = map net (only (λ s. same s.currency c) ss)

  -- The P lines of securities are those of the nets that are listed
  nets_told : (ss : List SecurityRow) → joined_up (map net_piece ss) ≡ joined_up (map net_line (only (listed n) (own ss)))
  nets_told [] = refl
  nets_told (s ∷ ss) = go (same s.currency c) refl (listed n (net s)) refl (nets_told ss)
    where
      go : (a : Bool) → same s.currency c ≡ a → (b : Bool) → listed n (net s) ≡ b
          → joined_up (map net_piece ss) ≡ joined_up (map net_line (only (listed n) (own ss)))
          → joined_up (map net_piece (s ∷ ss)) ≡ joined_up (map net_line (only (listed n) (own (s ∷ ss))))
      go false e b k rest = rw (only_left (λ s. same s.currency c) s ss e, piece_other s e) rest
      go true e true k rest =
          rw (only_kept (λ s. same s.currency c) s ss e, only_kept (listed n) (net s) (own ss) k, piece_own s e k) (ap (λ (l : Text). net_line (net s) ++ l) rest)
      go true e false k rest =
          rw (only_kept (λ s. same s.currency c) s ss e, only_left (listed n) (net s) (own ss) k, piece_own s e k) rest

module _ (t : Tables) (admitted : Admitted t) (k : ℕ) (c : Currency) (at : Stands c (currencies t.securities) k) (n : Class) where
  -- The P line of a security
  net_held : (i : ℕ) (s : SecurityRow) → Stands s t.securities i
      → net_text (held_tables t).securities (opening_of (held_tables t) k).worths k n i ≡ net_piece c n (netted_in t.classes (valued_in t)) s
  net_held i s own =
      let net = netted_in t.classes (valued_in t) s in
      let facts = table_facts t admitted in
      ap₂ (λ (h : Security) (worth : SignedCents). net_line_if (eqb h.currency k && eqb h.class n) (get_or (held_tables t).securities.codes i 0) (rounded worth 100))
      (security_held t admitted own)
      (opening_worth t admitted i s own)
      ∙ ap₂ (λ (its : Bool) (code : Code). elim ((its && eqb net.class n) && is_net net.net) [ true ↦ security_line code net.net | false ↦ [] ])
      (sym (rank_of t admitted own k c at))
      (ap code_text (stands_held 256 highest (λ s. code_number s.code) (omega (arith, facts.few_securities)) own 0)
      ∙ code_text_lem s.code (stands_each facts.securities own).code)

  -- ---- the whole text

  -- The positions that rows of the table leave are those that the paper's rows leave
  left_held : (i : ℕ) → left_by (held_tables t).priorities.items (opening_book (held_tables t) k) i ≡ offset_all (take i t.priorities) (opening_in t c)
  left_held i =
      ap₂ offset_all (sym (take_map row_of i (held_tables t).priorities.items) ∙ ap (take i) (priorities_paper t admitted))
      (opening_held t admitted k c at)

  -- The text of admitted tables is the paper's
  pub text_held : reason_text (held_tables t) k n ≡ explanation_text (explanation_of t c n)
  unfolding explanation_of explanation_text
  text_held =
      let os = t.priorities in
      let b = opening_in t c in
      let held = (held_tables t).priorities.items in
      let book = opening_book (held_tables t) k in
      let many : length held ≡ length os = sym (length-map held row_of) ∙ ap length (priorities_paper t admitted) in
      ap₂ (λ (nets others : Text). nets ++ others)
      (ap (λ (many : ℕ). joined_up (from_rank (net_text (held_tables t).securities (opening_of (held_tables t) k).worths k n) many 0))
      (length-map t.securities (held_security t.classes (currencies t.securities)))
      ∙ ap joined_up (ranks_made _ (net_piece c n (netted_in t.classes (valued_in t))) t.securities net_held) ∙ nets_told c n (netted_in t.classes (valued_in t)) t.securities)
      (ap (λ (many : ℕ). remaining_text (3 + many) held n book) (length-map t.classes held_class)
      ∙ ap (λ (many : ℕ). joined_up (from_rank (row_text_at (priorities_line t) held n book) many 0) ++ setter_text n (left_by held book many)) many
      ∙ ap₂ (λ (rows : Text) (left : Book). rows ++ setter_text n left)
      (ap joined_up (ranks_same _ (row_took n (priorities_line t) os b) (length os) 0 (λ i low. ap₂ (row_text (priorities_line t + i) n) (left_held i) (left_held (suc i))))
      ∙ rows_told n os (priorities_line t) b)
      (left_held (length os) ∙ ap (λ (rows : List PriorityRow). offset_all rows b) (take_all (length os) os (omega arith))))
