-- The report's text of admitted tables, from the tables and figures as the code holds them, is the paper's, and it can be written.
use Prim.Native.Nat.{ℕ, suc, ◌+◌, ◌≤◌, ◌<◌, ◌^◌}
use native.Mathlib.Omega.{arith}
use mathlib.Core.Bool.{Bool, true, false}
use mathlib.Core.List.{List, [], ◌∷◌, ◌++◌, map}
use mathlib.Core.Path.{◌≡◌, refl, sym, ap, ap₂, ◌∙◌}
use lib.IntN.{pos, nat_abs}
use lib.ListN.{length, length-map}
use Rattle.std.specs.List.{zip}
use Rattle.paper.specs.Units.{Text, Line, Currency, SignedCents, Whole}
use Rattle.paper.specs.Days.{day}
use Rattle.paper.specs.Lists.{joined_up, Each, nil, cons}
use Rattle.paper.specs.Text.{is_currency}
use Rattle.paper.specs.Rows as paper
use Rattle.paper.specs.Rows.{SecurityRow, TradeRow, Tables}
use Rattle.paper.specs.Currencies.{currencies}
use Rattle.paper.specs.Valuation.{margined, valued, valued_from, valued_in}
use Rattle.paper.specs.Offsetting.{position, remaining_in}
use Rattle.paper.specs.Report.{Listing, is_listed, trade_line, class_line, margin_of, currency_lines, report_of}
use Rattle.paper.specs.Bounds.{most_mark}
use Rattle.paper.specs.Tables.{Admitted}
use Rattle.paper.proofs.Lists.{each_map, each_made, each_all, joined_only}
use Rattle.paper.proofs.Bounds.{valued_facts}
use Rattle.paper.proofs.Currencies.{each_currency}
use Rattle.paper.proofs.Totals.{TableFacts, table_facts, currency_facts}
use Rattle.tables.specs.Numbers.{currency_number}
use Rattle.tables.specs.Blanks.{no_class, no_security, no_trade}
use Rattle.tables.specs.Held.{held_class, held_priority, held_security, held_tables}
use Rattle.tables.specs.declared.ClassRow.{ClassRow}
use Rattle.tables.proofs.Numbers.{currency_number_low}
use Rattle.tables.proofs.Places.{Stands, here, there, stands_low, stands_each, stands_made, each_standing, each_any, currency_stands}
use Rattle.margin.specs.Openings.{from_rank}
use Rattle.margin.specs.Held.{mark_of, held_currency, held_figures}
use Rattle.margin.proofs.Forwards.{ranks_made}
use Rattle.margin.proofs.Trades.{Known, trades_known, trade_in, security_held, valued_out, valued_own}
use Rattle.margin.proofs.Paper.{trades_line, letters, rising_currencies, rank_low, tables_ranged}
use Rattle.lines.specs.Written.{money_text, mark_line, position_line, total_line}
use Rattle.lines.proofs.Spelled.{money_text_lem}
use Rattle.report.proofs.Columns.{stands_held, padded_any}
use Rattle.report.specs.Texts.{first_line, money_at, marked, mark_text, listed_line, position_text, lines_of, report_text, Writable, WritableFigures}

-- The paper's M lines of T rows that begin at a line
abbrev marks_from : Tables → Line → List TradeRow → Text
marks_from t line rs = joined_up (map trade_line (valued_from (day t.date) t.securities line rs))

module _ (t : Tables) (admitted : Admitted t) where
  -- What the rules say of the tables
  facts : TableFacts t
  facts = table_facts t admitted

  -- Each currency is three letters
  names : Each (λ c. is_currency c ≡ true) (currencies t.securities)
  names = each_currency (λ c. is_currency c ≡ true) t.securities (letters t admitted)

  -- The letters of the currency of a rank are the paper's
  money_held : (k : ℕ) (c : Currency) → Stands c (currencies t.securities) k → money_text (money_at (held_tables t) k) ≡ c
  money_held k c at =
      ap money_text (stands_made currency_number 0 at)
      ∙ money_text_lem c (stands_each names at)

  -- ---- M lines

  -- The first T row stands where the paper has it
  first_held : first_line (held_tables t) ≡ trades_line t
  first_held =
      omega (arith, length-map t.classes held_class, length-map t.priorities held_priority, length-map t.securities (held_security t.classes (currencies t.securities)))

  -- The M line of a T row before those of the rows behind it
  mark_first : (k : ℕ) (r : TradeRow) → Known t r → Stands r t.trades k → (rs : List TradeRow)
      → mark_text (held_tables t) (held_figures t) k ++ marks_from t (suc (trades_line t + k)) rs ≡ marks_from t (trades_line t + k) (r ∷ rs)
  mark_first k r known at rs =
      rw (
        first_held,
        stands_made (trade_in t) no_trade at,
        security_held t admitted known.stands,
        stands_held 500 (pos 0) (mark_of t) facts.few_trades at (pos 0),
      )
      (go (margined (day t.date) r) refl)
    where
      line : Line
      line = trades_line t + k

      s : SecurityRow
      s = known.security

      rank : ℕ
      rank = (held_security t.classes (currencies t.securities) s).currency

      go : (own : Bool) → margined (day t.date) r ≡ own
          → marked (margined (day t.date) r) line (money_at (held_tables t) rank) (mark_of t r) ++ marks_from t (suc line) rs ≡ marks_from t line (r ∷ rs)
      go false e = rw (e, valued_out (day t.date) t.securities line r rs e)
      go true e =
          let money = money_held rank s.currency (currency_stands known.stands (rising_currencies t admitted)) in
          let mark : mark_of t r ≡ (valued (day t.date) line r s).mark = rw (e, known.found, mark_of) in
          rw (e, valued_own (day t.date) t.securities line r rs s e known.found)
          (ap₂ (λ (name : Currency) (mark : SignedCents). mark_line line name mark ++ marks_from t (suc line) rs) money mark)

  -- The M lines from a T row on
  marks_held : {rs : List TradeRow} → Each (Known t) rs → (from : ℕ) → ((k : ℕ) (r : TradeRow) → Stands r rs k → Stands r t.trades (from + k))
      → joined_up (from_rank (mark_text (held_tables t) (held_figures t)) (length rs) from) ≡ marks_from t (trades_line t + from) rs
  unfolding valued_from
  marks_held nil from inside = refl
  marks_held (cons {a = r} {rest = rs} known rest) from inside =
      let first : from + 0 ≡ from = omega arith in
      let next : trades_line t + suc from ≡ suc (trades_line t + from) = omega arith in
      ap (λ (l : Text). mark_text (held_tables t) (held_figures t) from ++ l)
      (marks_held rest (suc from) (λ k x at. let on : from + suc k ≡ suc from + k = omega arith in rw on at (inside (suc k) x (there at)))
      ∙ ap (λ (line : Line). marks_from t line rs) next)
      ∙ mark_first from r known (rw first at (inside 0 r here)) rs

  -- ---- K and Z lines, of either listing

  module _ (listing : Listing) where
    module _ (c : Currency) (own : is_currency c ≡ true) where
      -- The K line of a class in a currency, where it is listed
      position_held : (i : ℕ) (row : paper.ClassRow) → Stands row t.classes i
          → position_text listing (currency_number c) (held_tables t).classes (held_currency t c) i
          ≡ elim (is_listed listing (remaining_in t c) row) [ true ↦ class_line c (remaining_in t c) row | false ↦ [] ]
      unfolding class_line
      position_held i row at =
          let b = remaining_in t c in
          ap₂ (λ (h : ClassRow) (margin : Whole).
          listed_line listing (currency_number c) h.class (position b.long h.class) (position b.short h.class) margin)
          (stands_made held_class no_class at)
          (stands_held 40 0 (margin_of b) facts.few_classes at 0)
          ∙ ap (λ (name : Currency).
          elim (is_listed listing b row) [
            | true ↦ position_line name row.class (position b.long row.class) (position b.short row.class) (margin_of b row)
            | false ↦ []
          ])
          (money_text_lem c own)

      -- The lines of a currency
      currency_held : lines_of listing (held_tables t).classes (currency_number c, held_currency t c) ≡ currency_lines listing t (valued_in t) c
      unfolding currency_lines
      currency_held =
          let f = held_currency t c in
          let b = remaining_in t c in
          ap₂ (λ (positions : Text) (name : Currency). positions ++ total_line name f.mark f.initial f.total)
          (ap (λ (many : ℕ). joined_up (from_rank (position_text listing (currency_number c) (held_tables t).classes f) many 0)) (length-map t.classes held_class)
          ∙ ap joined_up (ranks_made _ (λ (row : paper.ClassRow). elim (is_listed listing b row) [ true ↦ class_line c b row | false ↦ [] ]) t.classes position_held)
          ∙ sym (joined_only (class_line c b) (is_listed listing b) t.classes))
          (money_text_lem c own)

    -- Those of currencies, each with its figures
    currencies_held : {cs : List Currency} → Each (λ c. is_currency c ≡ true) cs
        → map (lines_of listing (held_tables t).classes) (zip (map currency_number cs) (map (held_currency t) cs)) ≡ map (currency_lines listing t (valued_in t)) cs
    currencies_held nil = refl
    currencies_held (cons {a} own rest) = ap₂ (λ (x : Text) (l : List Text). x ∷ l) (currency_held a own) (currencies_held rest)

    -- The report's text of admitted tables is the paper's
    pub text_held : report_text listing (held_tables t) (held_figures t) ≡ report_of listing t
    unfolding report_of
    text_held =
        let start : trades_line t + 0 ≡ trades_line t = omega arith in
        ap₂ (λ (marks others : Text). marks ++ others)
        (ap (λ (many : ℕ). joined_up (from_rank (mark_text (held_tables t) (held_figures t)) many 0)) (length-map t.trades (trade_in t))
        ∙ marks_held (trades_known t admitted) 0 (λ k r at. let same : 0 + k ≡ k = omega arith in rw same at) ∙ ap (λ (line : Line). marks_from t line t.trades) start)
        (ap joined_up (currencies_held names))

  -- ---- it can be written

  -- The mark-to-market of a trade, in size: cents
  mark_size : (r : TradeRow) → Known t r → nat_abs (mark_of t r) ≤ most_mark
  mark_size r known = go (margined (day t.date) r) refl
    where
      go : (own : Bool) → margined (day t.date) r ≡ own → nat_abs (mark_of t r) ≤ most_mark
      go false e = rw (e, mark_of) (omega arith)
      go true e =
          let s = known.security in
          rw (e, known.found, mark_of)
          (valued_facts (day t.date) 0 r s known.facts.facts (stands_each facts.securities known.stands) e (known.facts.period s known.found e).1
          (omega arith)
          ).mark

  -- The report of admitted tables can be written, and its tables and figures stand in their places
  pub writable_held : Writable (held_tables t) × WritableFigures (held_tables t) (held_figures t)
  writable_held = (writable, figures)
    where
      writable : Writable (held_tables t)
      writable =
          record {
            classes = each_made held_class t.classes (each_map (λ c f. f.high) facts.classes);
            money = each_made currency_number (currencies t.securities) (each_map currency_number_low names);
          }

      figures : WritableFigures (held_tables t) (held_figures t)
      figures =
          record {
            few = (tables_ranged t admitted).1;
            security =
                each_any (λ h. h.security < 200)
                (each_made (trade_in t) t.trades (each_map (λ r known. omega (arith, stands_low known.stands, facts.few_securities)) (trades_known t admitted)))
                no_trade
                (omega arith);
            currency =
                each_any (λ h. h.currency < 8)
                (each_made (held_security t.classes (currencies t.securities)) t.securities (each_standing t.securities (λ k s at. rank_low t admitted at)))
                no_security
                (omega arith);
            mark =
                padded_any (λ mark. nat_abs mark < 2 ^ 63) 500
                (each_made (mark_of t) t.trades (each_map (λ r known. omega (arith, mark_size r known)) (trades_known t admitted)))
                (omega arith)
                (pos 0)
                (omega arith);
            sum =
                each_made (held_currency t) (currencies t.securities) (each_all (λ c. omega (arith, (currency_facts t admitted c).mark)) (currencies t.securities));
          }
