-- A trade as the code holds it: it has a security, its figures are the paper's, and so are sums of them.
use Prim.Native.Nat.{ℕ, suc, ◌+◌}
use mathlib.Core.Bool.{Bool, true, false}
use mathlib.Core.List.{List, [], ◌∷◌, map}
use mathlib.Core.Option.{Option, none, some}
use mathlib.Core.Path.{◌≡◌, refl, sym, ap, ap₂, ◌∙◌}
use lib.Dec.{T}
use lib.IntN.{ℤ, pos, ◌+ℤ◌, ◌*ℤ◌, +ℤ_idl}
use lib.ListN.{get_or}
use Rattle.paper.specs.Units.{Line, Day, Sign, SignedWhole}
use Rattle.paper.specs.Days.{day}
use Rattle.paper.specs.Lists.{given, Each, nil, cons}
use Rattle.paper.specs.Text.{same}
use Rattle.paper.specs.Rows as paper
use Rattle.paper.specs.Rows.{repo, cash, seller, purchaser, SecurityRow, TradeRow, Tables}
use Rattle.paper.specs.Currencies.{currencies}
use Rattle.paper.specs.Valuation as paper_values
use Rattle.paper.specs.Valuation.{margined, accrual_day, accrued_on, revaluated, interest_of, sign_of, mark_to_market, security_of, valued, valued_from}
use Rattle.paper.specs.Refusals.{rules_of, period_of, trade_kind}
use Rattle.paper.specs.Tables.{hold, Admitted}
use Rattle.paper.proofs.Lists.{tests, never, each_map}
use Rattle.paper.proofs.Rules.{each_holds}
use Rattle.paper.proofs.Totals.{TradeIn, trade_in_lem, table_facts}
use Rattle.tables.specs.Numbers.{code_number, trade_number, side_number, number_place}
use Rattle.tables.specs.Blanks.{no_security}
use Rattle.tables.specs.Held.{held_security, held_trade, codes_of, held_tables}
use Rattle.tables.specs.declared.Security.{Security}
use Rattle.tables.specs.declared.Trade.{Trade}
use Rattle.tables.proofs.Numbers.{code_number_same}
use Rattle.tables.proofs.Places.{Stands, first_stands, stands_made}
use Rattle.valuation.specs.Valued.{trade_of, side_of, interest_on, value_of}
use Rattle.valuation.specs.declared.Valued.{Valued}
use Rattle.margin.specs.Sums.{value_in}
use Rattle.margin.proofs.Gathered.{sum_of, sum_kept, sum_left}

-- What is known of a T row: its rules hold, and its security stands at the place of the number of its code
pub record Known (t : Tables) (r : TradeRow) : Type 0 where
  pub facts : TradeIn (day t.date) t.securities r
  pub security : SecurityRow
  pub found : security_of t.securities r.code ≡ some security
  pub stands : Stands security t.securities (number_place (codes_of t.securities) (code_number r.code))

-- It is so of each T row of admitted tables
pub trades_known : (t : Tables) → Admitted t → Each (Known t) t.trades
trades_known t admitted = each_holds (trade_kind today (period_of ss)) (Known t) known [] t.trades admitted.4
  where
    today : Day
    today = day t.date

    ss : List SecurityRow
    ss = t.securities

    known : (above : List TradeRow) (r : TradeRow) → T (hold (rules_of (trade_kind today (period_of ss)) above r)) → Known t r
    known above r h = go (security_of ss r.code) refl (search tests)
      where
        facts : TradeIn today ss r
        facts = trade_in_lem today ss above r h

        go : (o : Option SecurityRow) → security_of ss r.code ≡ o → given (period_of ss r.code) ≡ true → Known t r
        go none e there = never (rw e at there)
        go (some s) e there =
            record {
              facts = facts;
              security = s;
              found = e;
              stands =
                  first_stands (λ s. code_number s.code) (code_number r.code) (λ s. same s.code r.code)
                  (each_map (λ s f. code_number_same s.code r.code f.code facts.facts.code) (table_facts t admitted).securities)
                  s
                  e;
            }

-- ---- its figures

-- A kind of trade and a side are those of their numbers
trade_of_lem : (x : paper.Trade) → trade_of (trade_number x) ≡ x
trade_of_lem repo = refl
trade_of_lem cash = refl

side_of_lem : (x : paper.Side) → side_of (side_number x) ≡ x
side_of_lem seller = refl
side_of_lem purchaser = refl

-- Its interest is the paper's: whole units
interest_held : (today : Day) (codes : List ℕ) (r : TradeRow) → interest_on (held_trade today codes r) ≡ interest_of today r
interest_held today codes r = go r.trade refl
  where
    go : (x : paper.Trade) → r.trade ≡ x → interest_on (held_trade today codes r) ≡ interest_of today r
    go cash e = rw (e, interest_of)
    go repo e = rw (e, accrual_day, interest_of)

-- The figures of a trade, both in cents; 0 where it is not margined
abbrev pub figures : Bool → paper_values.Valued → Valued
figures own v = elim own [ false ↦ record { worth = pos 0; mark = pos 0 } | true ↦ record { worth = v.signed_worth; mark = v.mark } ]

-- The paper's list of margined trades: one that is not margined is left out, and one that is comes first
pub valued_out : (today : Day) (ss : List SecurityRow) (line : Line) (r : TradeRow) (rs : List TradeRow) → margined today r ≡ false
    → valued_from today ss line (r ∷ rs) ≡ valued_from today ss (suc line) rs
unfolding valued_from
valued_out today ss line r rs e = rw (e, valued_from)

pub valued_own : (today : Day) (ss : List SecurityRow) (line : Line) (r : TradeRow) (rs : List TradeRow) (s : SecurityRow) → margined today r ≡ true
    → security_of ss r.code ≡ some s → valued_from today ss line (r ∷ rs) ≡ valued today line r s ∷ valued_from today ss (suc line) rs
unfolding valued_from
valued_own today ss line r rs s e found = rw (e, found, valued_from)

-- The securities as the code holds them, and a trade
abbrev pub rows_of : Tables → List Security
rows_of t = (held_tables t).securities.rows.items

abbrev pub trade_in : Tables → TradeRow → Trade
trade_in t r = held_trade (day t.date) (codes_of t.securities) r

module _ (t : Tables) (admitted : Admitted t) where
  -- A security stands at its place
  pub security_held : {s : SecurityRow} {k : ℕ} → Stands s t.securities k
      → get_or (rows_of t) k no_security ≡ held_security t.classes (currencies t.securities) s
  security_held at = stands_made (held_security t.classes (currencies t.securities)) no_security at

  -- The figures of a trade are the paper's: cents
  pub value_held : (r : TradeRow) (known : Known t r) (own : Bool) → margined (day t.date) r ≡ own → (line : Line)
      → value_in (rows_of t) (trade_in t r) ≡ figures own (valued (day t.date) line r known.security)
  value_held r known own is line =
      let today = day t.date in
      let s = known.security in
      let worth = revaluated r.nominal (s.price + accrued_on s (accrual_day today r)) in
      ap (value_of (trade_in t r)) (security_held known.stands)
      ∙ ap₂ (λ (sign : Sign) (due : SignedWhole).
      figures (margined today r) (record { line = line; security = s; signed_worth = pos worth *ℤ sign; mark = mark_to_market worth r.amount due sign }))
      (ap₂ sign_of (trade_of_lem r.trade) (side_of_lem r.side))
      (interest_held today (codes_of t.securities) r)
      ∙ ap (λ (own : Bool). figures own (valued today line r s)) is

  -- A figure of a trade, and a test of the code's that agrees with one of the paper's
  module _ (figure : Valued → ℤ) (unmargined : figure (record { worth = pos 0; mark = pos 0 }) ≡ pos 0) (mine : Trade → Bool) (theirs : paper_values.Valued → Bool)
      (agree : (r : TradeRow) (known : Known t r) (line : Line) → theirs (valued (day t.date) line r known.security) ≡ mine (trade_in t r)) where
    -- The figures of the trades that pass, summed: the code's sum is the paper's, of the figure's unit
    pub sums_held : (line : Line) {rs : List TradeRow} → Each (Known t) rs
        → sum_of mine (λ h. figure (value_in (rows_of t) h)) (map (trade_in t) rs)
        ≡ sum_of theirs (λ v. figure (figures true v)) (valued_from (day t.date) t.securities line rs)
    unfolding valued_from
    sums_held line nil = refl
    sums_held line (cons {a = r} {rest = rs} known rest) = go (margined today r) refl (mine h) refl (sums_held (suc line) rest)
      where
        today : Day
        today = day t.date

        h : Trade
        h = trade_in t r

        hs : List Trade
        hs = map (trade_in t) rs

        v : paper_values.Valued
        v = valued today line r known.security

        vs : List paper_values.Valued
        vs = valued_from today t.securities (suc line) rs

        amount : Trade → ℤ
        amount h = figure (value_in (rows_of t) h)

        paid : paper_values.Valued → ℤ
        paid v = figure (figures true v)

        out : margined today r ≡ false → sum_of theirs paid vs ≡ sum_of theirs paid (valued_from today t.securities line (r ∷ rs))
        out e = sym (ap (sum_of theirs paid) (valued_out today t.securities line r rs e))

        own : margined today r ≡ true → sum_of theirs paid (v ∷ vs) ≡ sum_of theirs paid (valued_from today t.securities line (r ∷ rs))
        own e = sym (ap (sum_of theirs paid) (valued_own today t.securities line r rs known.security e known.found))

        go : (is : Bool) → margined today r ≡ is → (picked : Bool) → mine h ≡ picked → sum_of mine amount hs ≡ sum_of theirs paid vs
            → sum_of mine amount (h ∷ hs) ≡ sum_of theirs paid (valued_from today t.securities line (r ∷ rs))
        go false e false k more = sum_left mine amount h hs k ∙ more ∙ out e
        go false e true k more =
            sum_kept mine amount h hs k
            ∙ ap (λ (z : ℤ). z +ℤ sum_of mine amount hs) (ap figure (value_held r known false e line) ∙ unmargined)
            ∙ +ℤ_idl (sum_of mine amount hs)
            ∙ more
            ∙ out e
        go true e false k more =
            sum_left mine amount h hs k ∙ more ∙ sym (sum_left theirs paid v vs (agree r known line ∙ k)) ∙ own e
        go true e true k more =
            sum_kept mine amount h hs k
            ∙ ap₂ ◌+ℤ◌ (ap figure (value_held r known true e line)) more
            ∙ sym (sum_kept theirs paid v vs (agree r known line ∙ k))
            ∙ own e
