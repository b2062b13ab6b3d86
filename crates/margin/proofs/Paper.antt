-- The figures of an accepted sheet, worked out from its tables as the code holds them, are the paper's.
use Prim.Native.Nat.{ℕ, ◌+◌, ◌≤◌, ◌<◌}
use native.Mathlib.Omega.{arith}
use mathlib.Core.Bool.{Bool, true, false, not, ◌&&◌}
use mathlib.Core.List.{List, ◌∷◌, map, map-map, map-id}
use mathlib.Core.Option
use mathlib.Core.Option.{Option, none, some}
use mathlib.Core.Path.{◌≡◌, refl, sym, ap, ap₂, ◌∙◌}
use lib.Dec.{eqb}
use lib.IntN.{pos}
use lib.ListN.{length, get_or, length-map}
use Rattle.paper.specs.Units.{Line, Duration, SignedCents}
use Rattle.paper.specs.Units as units
use Rattle.paper.specs.Days.{day}
use Rattle.paper.specs.Lists.{first_that, Each, nil, cons}
use Rattle.paper.specs.Rounding.{rounded}
use Rattle.paper.specs.Signs.{signed_sum}
use Rattle.paper.specs.Text.{same, is_currency}
use Rattle.paper.specs.Rows as paper
use Rattle.paper.specs.Rows.{Kind, repo, cash, SecurityRow, TradeRow, Tables, same_kind}
use Rattle.paper.specs.Currencies.{currencies}
use Rattle.paper.specs.Valuation.{margined, accrual_day, lower, class_of, valued_in, signed_worths_in}
use Rattle.paper.specs.Offsetting.{Book, netted_in, opening_in}
use Rattle.paper.specs.Report.{margin_of, mark_in}
use Rattle.paper.specs.Tables.{Admitted}
use Rattle.paper.proofs.Lists.{never, each_map, each_made, each_found}
use Rattle.paper.proofs.Rules.{ClassFacts}
use Rattle.paper.proofs.Bounds.{interest_days, rate_most}
use Rattle.paper.proofs.Currencies.{few_currencies, each_currency}
use Rattle.paper.proofs.Totals.{TableFacts, table_facts}
use Rattle.tables.specs.Padded.{padded}
use Rattle.tables.specs.Numbers.{trade_number, code_number, currency_number}
use Rattle.tables.specs.Blanks.{no_security}
use Rattle.tables.specs.Held.{held_class, held_priority, held_security, codes_of, held_tables}
use Rattle.tables.specs.declared.Security.{Security}
use Rattle.tables.specs.declared.Trade.{Trade}
use Rattle.tables.proofs.Numbers.{code_number_same, currency_number_same}
use Rattle.tables.proofs.Places.{Stands, stands_low, stands_each, stands_made, each_standing, Rises, rises_same, currencies_rise, currency_stands, codes_rise}
use Rattle.valuation.specs.Valued.{Ranged, Quoted}
use Rattle.valuation.specs.declared.Valued.{Valued}
use Rattle.offsetting.specs.Books.{row_of}
use Rattle.margin.specs.Sums.{security_in, value_in}
use Rattle.margin.specs.Openings.{Net, from_rank, net_at, nets_of}
use Rattle.margin.specs.Figures.{margin_in, trade_sums, opening_book, currency_at, figures_of, TablesRanged, TablesFew}
use Rattle.margin.specs.Held.{mark_of, held_currency, held_figures}
use Rattle.margin.specs.declared.Currency.{Currency}
use Rattle.margin.proofs.Forwards.{ranks_made}
use Rattle.margin.proofs.Gathered.{gathered_at}
use Rattle.margin.proofs.Trades.{Known, trades_known, rows_of, trade_in, security_held, value_held, sums_held}
use Rattle.margin.proofs.Parts.{rank_opened}

-- The class of a security is at most 40
class_most : (cs : List paper.ClassRow) → Each ClassFacts cs → (kind : Kind) (duration : Option Duration) → Option.get_or (class_of cs kind duration) 0 ≤ 40
class_most cs facts kind duration = go (first_that fits cs) refl
  where
    fits : paper.ClassRow → Bool
    fits c = same_kind c.kind kind && not (lower c.border duration)

    go : (o : Option paper.ClassRow) → first_that fits cs ≡ o → Option.get_or (Option.map (λ c. c.class) o) 0 ≤ 40
    go none e = omega arith
    go (some c) e = (each_found fits cs facts c e).high

-- A trade whose number is not that of cash is a repo
repo_number : (x : paper.Trade) → eqb (trade_number x) 1 ≡ false → x ≡ repo
repo_number repo e = refl
repo_number cash e = never (sym e)

-- What is made of each entry, where it is the same by what is true of it
made_same : {A B : Type 0} {P : A → Type 0} (f g : A → B) → ((a : A) → P a → f a ≡ g a) → {xs : List A} → Each P xs → map f xs ≡ map g xs
made_same f g same nil = refl
made_same {B = B} f g same (cons {a} p ps) = ap₂ (λ (b : B) (l : List B). b ∷ l) (same a p) (made_same f g same ps)

-- The line of the first trade
abbrev pub trades_line : Tables → Line
trades_line t = 3 + length t.classes + length t.priorities + length t.securities

-- The net of a security, with its class and the rank of its currency
abbrev ranked_net : Tables → SecurityRow → Net
ranked_net t s =
    let h = held_security t.classes (currencies t.securities) s in
    record { rank = h.currency; class = h.class; net = (netted_in t.classes (valued_in t) s).net }

module _ (t : Tables) (admitted : Admitted t) where
  -- What the rules say of the tables
  facts : TableFacts t
  facts = table_facts t admitted

  -- Numbers of codes and of currencies rise
  rising_codes : Rises 0 (codes_of t.securities)
  rising_codes = codes_rise t.classes t.securities admitted.3

  pub letters : Each (λ s. is_currency s.currency ≡ true) t.securities
  letters = each_map (λ s f. f.currency) facts.securities

  pub rising_currencies : Rises 0 (map currency_number (currencies t.securities))
  rising_currencies = currencies_rise t.securities letters

  -- ... and there are at most eight currencies
  pub currencies_few : length (currencies t.securities) ≤ 8
  currencies_few = few_currencies t.classes t.securities admitted.3

  -- The currency of a security is that of a rank exactly where the rank is its own
  pub rank_of : {s : SecurityRow} {i : ℕ} → Stands s t.securities i → (k : ℕ) (c : units.Currency) → Stands c (currencies t.securities) k
      → same s.currency c ≡ eqb (ranked_net t s).rank k
  rank_of {s} at k c own =
      currency_number_same s.currency c (stands_each letters at) (stands_each (each_currency (λ c. is_currency c ≡ true) t.securities letters) own)
      ∙ rises_same currency_number (currency_stands at rising_currencies) own rising_currencies

  -- The worths of a security, cents, as they stand in what a currency begins with
  pub opening_worth : (k : ℕ) (s : SecurityRow) → Stands s t.securities k
      → get_or (trade_sums (held_tables t)).worths k (pos 0) ≡ signed_sum (signed_worths_in s.code (valued_in t))
  opening_worth k s at =
      gathered_at 200 (λ h. h.security) (λ h. (value_in (rows_of t) h).worth) k (omega (arith, stands_low at, facts.few_securities)) (map (trade_in t) t.trades)
      ∙ sums_held t admitted (λ v. v.worth) refl (λ h. eqb h.security k) (λ v. same v.security.code s.code)
      (λ r known line.
      code_number_same known.security.code s.code (stands_each facts.securities known.stands).code (stands_each facts.securities at).code
      ∙ rises_same (λ s. code_number s.code) known.stands at rising_codes)
      (trades_line t)
      (trades_known t admitted)

  -- The mark-to-market sum of a currency, cents
  total_held : (k : ℕ) (c : units.Currency) → Stands c (currencies t.securities) k → get_or (trade_sums (held_tables t)).totals k (pos 0) ≡ mark_in c (valued_in t)
  total_held k c at =
      gathered_at 8 (λ h. (security_in (rows_of t) h).currency) (λ h. (value_in (rows_of t) h).mark) k (omega (arith, stands_low at, currencies_few)) (map (trade_in t) t.trades)
      ∙ sums_held t admitted (λ v. v.mark) refl (λ h. eqb (security_in (rows_of t) h).currency k) (λ v. same v.security.currency c)
      (λ r known line. rank_of known.stands k c at ∙ ap (λ (s : Security). eqb s.currency k) (sym (security_held t admitted known.stands)))
      (trades_line t)
      (trades_known t admitted)

  -- The nets of the securities, whole units
  nets_held : nets_of (rows_of t) (trade_sums (held_tables t)).worths ≡ map (ranked_net t) t.securities
  nets_held =
      let held = held_security t.classes (currencies t.securities) in
      rw (length-map t.securities held)
      (ranks_made (net_at (rows_of t) (trade_sums (held_tables t)).worths) (ranked_net t) t.securities
      (λ k s at.
      ap₂ (λ (h : Security) (worth : SignedCents). record { rank = h.currency; class = h.class; net = rounded worth 100 })
      (stands_made held no_security at)
      (opening_worth k s at)))

  -- The opening positions of a currency are the paper's
  pub opening_held : (k : ℕ) (c : units.Currency) → Stands c (currencies t.securities) k → opening_book (held_tables t) k ≡ opening_in t c
  opening_held k c at =
      rw nets_held
      (rank_opened (λ s. same s.currency c) (netted_in t.classes (valued_in t)) (ranked_net t) k (omega (arith, stands_low at, currencies_few))
      (each_standing t.securities (λ i s own. (rank_of own k c at, refl, refl))))

  -- The O rows are the paper's
  pub priorities_paper : map row_of (held_tables t).priorities.items ≡ t.priorities
  priorities_paper = map-map row_of held_priority t.priorities ∙ map-id t.priorities

  -- The class margins of positions, whole units
  margins_held : (b : Book) → map (margin_in b) (held_tables t).classes.items ≡ map (margin_of b) t.classes
  margins_held b = map-map (margin_in b) held_class t.classes

  -- The figures of a currency
  currency_held : (k : ℕ) (c : units.Currency) → Stands c (currencies t.securities) k → currency_at (held_tables t) k ≡ held_currency t c
  currency_held k c at =
      rw (opening_held k c at, total_held k c at, priorities_paper, margins_held)

  -- The mark-to-market of a trade, cents
  mark_held : (r : TradeRow) → Known t r → (value_in (rows_of t) (trade_in t r)).mark ≡ mark_of t r
  mark_held r known = go (margined (day t.date) r) refl
    where
      go : (own : Bool) → margined (day t.date) r ≡ own → (value_in (rows_of t) (trade_in t r)).mark ≡ mark_of t r
      go false e = ap (λ (v : Valued). v.mark) (value_held t admitted r known false e 0) ∙ sym (rw (e, mark_of))
      go true e = ap (λ (v : Valued). v.mark) (value_held t admitted r known true e 0) ∙ sym (rw (e, known.found, mark_of))

  -- The figures of admitted tables are the paper's
  pub figures_held : figures_of (held_tables t) ≡ held_figures t
  figures_held =
      let mark : Trade → SignedCents = λ h. (value_in (rows_of t) h).mark in
      ap₂ (λ (marks : List SignedCents) (each : List Currency). record { marks = padded 500 (pos 0) marks; currencies = record { items = each } })
      (map-map mark (trade_in t) t.trades ∙ made_same (λ r. mark (trade_in t r)) (mark_of t) mark_held (trades_known t admitted))
      (ap (λ (many : ℕ). from_rank (currency_at (held_tables t)) many 0) (length-map (currencies t.securities) currency_number)
      ∙ ranks_made (currency_at (held_tables t)) (held_currency t) (currencies t.securities) currency_held)

  -- A trade of admitted tables is within its ranges
  trade_ranged : (r : TradeRow) → Known t r → margined (day t.date) r ≡ true → Ranged (trade_in t r)
  trade_ranged r known m =
      let today = day t.date in
      let own = known.facts.facts in
      record {
        nominal = own.nominal_high;
        amount = own.amount_high;
        rate = rate_most r own;
        began = λ e. let is = repo_number r.trade e in rw (is, accrual_day) (interest_days today r own is m).0;
        days = λ e. let is = repo_number r.trade e in rw (is, accrual_day) (interest_days today r own is m).1;
      }

  -- ... and so is its security, on its accrual day
  security_ranged : (r : TradeRow) (known : Known t r) → margined (day t.date) r ≡ true
      → Quoted (held_security t.classes (currencies t.securities) known.security) (accrual_day (day t.date) r)
  security_ranged r known m =
      let own = stands_each facts.securities known.stands in
      let period = known.facts.period known.security known.found m in
      record {
        price = own.price_high;
        coupon = own.coupon;
        payments_low = own.payments_low;
        payments_high = own.payments_high;
        period = own.period_high;
        from = period.0;
        until = period.1;
      }

  -- The rank of the currency of a security is one of eight
  pub rank_low : {s : SecurityRow} {k : ℕ} → Stands s t.securities k → (ranked_net t s).rank < 8
  rank_low at = omega (arith, stands_low (currency_stands at rising_currencies), currencies_few)

  -- The tables are within the ranges that margining asks for, and have no more rows than the rules let through
  pub tables_ranged : TablesRanged (held_tables t) × TablesFew (held_tables t)
  tables_ranged = (ranged, few)
    where
      ranged : TablesRanged (held_tables t)
      ranged =
          record {
            classes = each_made held_class t.classes (each_map (λ c f. record { class = f.high; deposit = f.deposit }) facts.classes);
            priorities = each_made held_priority t.priorities facts.priorities;
            securities =
                each_made (held_security t.classes (currencies t.securities)) t.securities
                (each_standing t.securities (λ k s at. record { class = class_most t.classes facts.classes s.kind s.duration; currency = rank_low at }));
            trades =
                each_made (trade_in t) t.trades
                (each_map
                (λ r known.
                record {
                  security = omega (arith, stands_low known.stands, facts.few_securities);
                  currency = rw (security_held t admitted known.stands) (rank_low known.stands);
                  ranged = λ m. (trade_ranged r known m, rw (security_held t admitted known.stands) (security_ranged r known m));
                })
                (trades_known t admitted));
          }

      few : TablesFew (held_tables t)
      few =
          record {
            few_classes = omega (arith, length-map t.classes held_class, facts.few_classes);
            few_priorities = omega (arith, length-map t.priorities held_priority, facts.few_priorities);
            few_securities = omega (arith, length-map t.securities (held_security t.classes (currencies t.securities)), facts.few_securities);
            few_trades = omega (arith, length-map t.trades (trade_in t), facts.few_trades);
            few_currencies = omega (arith, length-map (currencies t.securities) currency_number, currencies_few);
          }
