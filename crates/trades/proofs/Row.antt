-- A T row by the readings of its fields.
use Prim.Native.Nat.{ℕ, ◌+◌, ◌-◌}
use native.Mathlib.Omega.{arith}
use mathlib.Core.Bool.{Bool, true, false, ◌&&◌}
use mathlib.Core.List.{[], ◌∷◌}
use mathlib.Core.Option as maybe
use mathlib.Core.Option.{Option, none, some, some-injective, map}
use mathlib.Core.Path.{◌≡◌, refl, sym, ap, ap₂, ◌∙◌}
use Rattle.std.proofs.Common as answers
use Rattle.std.proofs.Common.{Result, Ok, Err, ok_or}
use lib.Dec.{eqb}
use lib.ListN.{get_or}
use Rattle.paper.specs.Units.{Text, Fields, Date, Day, Rate}
use Rattle.paper.specs.Days.{day_of, day}
use Rattle.paper.specs.Lists.{between, given, when, ◌>>=◌}
use Rattle.paper.specs.Text.{signed_in, number_in, date_in, is_code, or_blank}
use Rattle.paper.specs.Rows as paper
use Rattle.paper.specs.Rows.{Trade, repo, cash, Side, field, trade_in, side_in, read_trade}
use Rattle.paper.specs.Refusals.{is_rate, is_term, trade_fields, trade_dates, trade_kind}
use Rattle.paper.proofs.Lists.{both}
use Rattle.answers.specs.Options.{answer}
use Rattle.answers.specs.Refusals.{refusal}
use Rattle.answers.specs.declared.Refusal.{Refusal}
use Rattle.tables.specs.Numbers.{trade_number, side_number, code_number}
use Rattle.places.specs.Places.{Place, line_at, field_text}
use Rattle.codes.specs.Counts.{code_in}
use Rattle.fields.specs.Values.{ranged_in, rate_in}
use Rattle.fields.proofs.Readings.{trade_letter_lem, side_letter_lem}
use Rattle.places.specs.declared.Line.{Line}
use Rattle.sections.specs.Sections.{fields_at}
use Rattle.sections.proofs.Reading.{Lined, gated, lettered, ranged, by_fields, by_kept_dates, dated_none, dated_refused, dated_taken}
use Rattle.trades.specs.Read.{rate_of, trade_terms, trade_days, held_terms, held_row, trade_read}
use Rattle.trades.specs.declared.Terms.{Terms}
use Rattle.trades.specs.declared.TradeRow.{TradeRow}

-- ---- the fields that are no dates

-- The terms that fields are read as, where they keep rule 6
abbrev end : Option paper.TradeRow → Option Terms
end o = map held_terms (o >>= λ t. when (trade_fields t) t)

-- Two tests, and what is held where both hold
tested : (a b : Bool) (t : paper.TradeRow) → map held_terms (when (a && b) t) ≡ gated a (when b (held_terms t))
tested true true t = refl
tested true false t = refl
tested false b t = refl

-- Nothing, whatever a test says
nothing : {A : Type 0} (b : Bool) → ◌≡◌ {A = Option A} none (gated b none)
nothing true = refl
nothing false = refl

-- A code is read where a text has its form
coded : {A X : Type 0} (b : Bool) (x : X) (then : X → Option A) → gated b (then x) ≡ gated true (when b x >>= then)
coded true x then = refl
coded false x then = refl

-- A date that may be blank
abbrev last_of : Text → Option Date
last_of [] = none
last_of (b ∷ t) = some (date_in (b ∷ t))

last_read : (t : Text) → or_blank (λ u. some (date_in u)) t ≡ some (last_of t)
last_read [] = refl
last_read (b ∷ t) = refl

-- A blank is no rate, and no date
blank_rate : rate_in [] ≡ none
blank_rate = refl

last_date : (t : Text) → maybe.get_or (last_of t) 0 ≡ date_in t
unfolding date_in
last_date [] = refl
last_date (b ∷ t) = refl

-- By its letters, and the texts of its other fields
abbrev terms_from : Option ℕ → Option ℕ → Text → Text → Text → Text → Text → Option Terms
terms_from trade side code nominal amount last rate =
    trade >>= λ trade.
    side >>= λ side.
    code_in code >>= λ number.
    ranged_in 1 100_000_000 nominal >>= λ nominal.
    ranged_in 1 30_000_000_000 amount >>= λ amount.
    rate_of (eqb trade 1) last rate >>= λ rate.
    some (record { trade = trade; side = side; number = number; nominal = nominal; amount = amount; rate = rate })

-- One field after the other
module _ (fs : Fields) where
  -- The last two fields
  module _ (side : Side) (nominal amount : ℕ) where
    abbrev formed : Bool
    formed = is_code (field 3 fs) && between 1 100_000_000 nominal && between 1 30_000_000_000 amount

    abbrev row : Trade → Option Date → Option Rate → paper.TradeRow
    row trade last rate =
        record {
          trade = trade;
          side = side;
          code = field 3 fs;
          nominal = nominal;
          amount = amount;
          first = date_in (field 6 fs);
          last = last;
          rate = rate;
        }

    abbrev held : Trade → Rate → Option Terms
    held trade rate =
        some
        (record {
          trade = trade_number trade;
          side = side_number side;
          number = code_number (field 3 fs);
          nominal = nominal;
          amount = amount;
          rate = rate;
        })

    rated : (trade : Trade) (last rate : Text)
        → end (or_blank signed_in rate >>= λ r. some (row trade (last_of last) r)) ≡ gated formed (rate_of (eqb (trade_number trade) 1) last rate >>= held trade)
    rated cash [] [] = tested formed true (row cash none none)
    rated cash [] (b ∷ rate) = go (signed_in (b ∷ rate))
      where
        go : (o : Option Rate) → end (map some o >>= λ r. some (row cash none r)) ≡ gated formed none
        go none = nothing formed
        go (some r) = tested formed false (row cash none (some r))
    rated cash (b ∷ last) rate = go (or_blank signed_in rate)
      where
        go : (o : Option (Option Rate)) → end (o >>= λ r. some (row cash (last_of (b ∷ last)) r)) ≡ gated formed none
        go none = nothing formed
        go (some r) = tested formed false (row cash (last_of (b ∷ last)) r)
    rated repo last [] = tested formed false (row repo (last_of last) none)
    rated repo last (b ∷ rate) = go (signed_in (b ∷ rate))
      where
        kept : (r : Rate) (c : Bool) → gated formed (when c (held_terms (row repo (last_of last) (some r)))) ≡ gated formed (when c r >>= held repo)
        kept r true = refl
        kept r false = refl

        go : (o : Option Rate) → end (map some o >>= λ r. some (row repo (last_of last) r)) ≡ gated formed (o >>= (λ r. when (is_rate r) r) >>= held repo)
        go none = nothing formed
        go (some r) = tested formed (is_rate r) (row repo (last_of last) (some r)) ∙ kept r (is_rate r)

  one_by_one : end (read_trade fs)
      ≡ terms_from (map trade_number (trade_in (field 1 fs))) (map side_number (side_in (field 2 fs))) (field 3 fs) (field 4 fs) (field 5 fs) (field 7 fs) (field 8 fs)
  one_by_one =
      lettered end refl true (trade_in (field 1 fs)) trade_number _ _ λ trade.
      lettered end refl true (side_in (field 2 fs)) side_number _ _ λ side.
      ranged end refl (is_code (field 3 fs)) 1 100_000_000 (field 4 fs) _ _
      (λ nominal.
      ranged end refl (is_code (field 3 fs) && between 1 100_000_000 nominal) 1 30_000_000_000 (field 5 fs) _ _ λ amount.
      rw (last_read (field 7 fs)) (rated side nominal amount trade (field 7 fs) (field 8 fs)))
      ∙ coded (is_code (field 3 fs)) (code_number (field 3 fs)) (λ number.
      ranged_in 1 100_000_000 (field 4 fs) >>= λ nominal.
      ranged_in 1 30_000_000_000 (field 5 fs) >>= λ amount.
      rate_of (eqb (trade_number trade) 1) (field 7 fs) (field 8 fs) >>= λ rate.
      some (record { trade = trade_number trade; side = side_number side; number = number; nominal = nominal; amount = amount; rate = rate }))

  -- ---- its dates

  -- They are those that are written
  dates_read : (t : paper.TradeRow) → read_trade fs ≡ some t → (t.first ≡ date_in (field 6 fs)) × (maybe.get_or t.last 0 ≡ date_in (field 7 fs))
  dates_read t e =
      go (trade_in (field 1 fs)) (side_in (field 2 fs)) (number_in (field 4 fs)) (number_in (field 5 fs)) (or_blank signed_in (field 8 fs))
      (rw (last_read (field 7 fs)) at e)
    where
      go : (a : Option Trade) (b : Option Side) (c d : Option ℕ) (r : Option (Option Rate))
          → (a >>= (λ trade. b >>= λ side. c >>= λ nominal. d >>= λ amount. r >>= λ rate. some (row side nominal amount trade (last_of (field 7 fs)) rate))) ≡ some t
          → (t.first ≡ date_in (field 6 fs)) × (maybe.get_or t.last 0 ≡ date_in (field 7 fs))
      go none b c d r e = cc
      go (some trade) none c d r e = cc
      go (some trade) (some side) none d r e = cc
      go (some trade) (some side) (some nominal) none r e = cc
      go (some trade) (some side) (some nominal) (some amount) none e = cc
      go (some trade) (some side) (some nominal) (some amount) (some rate) e =
          let same = some-injective _ t e in
          (ap (λ (t : paper.TradeRow). t.first) (sym same), ap (λ (t : paper.TradeRow). maybe.get_or t.last 0) (sym same) ∙ last_date (field 7 fs))

-- Whose place is known
module _ (place : Place) where
  abbrev pub whole_row : Terms → Day × Day → TradeRow
  whole_row terms days = record { code = place; terms = terms; first = days.0; last = days.1 }

  -- Rule 7, where rule 6 says that cash has no last date
  ruled : (trade : Trade) (first : Date) (last : Option Date) (rate : Option Rate) (terms : Terms) → is_term trade last rate ≡ true
      → when (trade_dates trade first last) (whole_row terms (day first, day (maybe.get_or last 0)))
      ≡ map (whole_row terms) (trade_days (eqb (trade_number trade) 1) first (maybe.get_or last 0))
  ruled cash first none rate terms e = go (day_of first)
    where
      go : (o : Option Day) → when (given o) (whole_row terms (maybe.get_or o 0, 0)) ≡ map (whole_row terms) (o >>= λ d. some (d, 0))
      go none = refl
      go (some d) = refl
  ruled cash first (some last) rate terms e = cc
  ruled repo first none rate terms e = go (day_of first)
    where
      go : (o : Option Day) → none ≡ map (whole_row terms) (o >>= λ a. none)
      go none = refl
      go (some d) = refl
  ruled repo first (some last) rate terms e = go (day_of first) (day_of last)
    where
      go : (p q : Option Day)
          → when (given p && given q && between 1 730 (maybe.get_or q 0 - maybe.get_or p 0)) (whole_row terms (maybe.get_or p 0, maybe.get_or q 0))
          ≡ map (whole_row terms) (p >>= λ a. q >>= λ b. when (between 1 730 (b - a)) (a, b))
      go none none = refl
      go none (some b) = refl
      go (some a) none = refl
      go (some a) (some b) = test (between 1 730 (b - a))
        where
          test : (t : Bool) → when t (whole_row terms (a, b)) ≡ map (whole_row terms) (when t (a, b))
          test true = refl
          test false = refl

-- ---- the row of a line

module _ (s : Text) (at : Place) where
  abbrev its_days : Terms → Option (Day × Day)
  its_days terms = trade_days (eqb terms.trade 1) (date_in (field 6 (fields_at s at))) (date_in (field 7 (fields_at s at)))

  abbrev its_row : Terms → Day × Day → TradeRow
  its_row = whole_row (get_or (line_at s at).ends 2 0 + 1)

  -- By what its fields give
  abbrev by_terms : Option Terms → Result (TradeRow × Place) Refusal
  by_terms = by_fields (held_row s at) (line_at s at).next (trade_kind 0 (λ code. none)) (fields_at s at) its_days its_row

  -- Its dates, where it keeps rule 6
  dated : (t : paper.TradeRow) → read_trade (fields_at s at) ≡ some t → trade_fields t ≡ true
      → when (trade_dates t.trade t.first t.last) (held_row s at t) ≡ map (its_row (held_terms t)) (its_days (held_terms t))
  dated t e k =
      let (first, last) = dates_read (fields_at s at) t e in
      let term = (both (is_code t.code && between 1 100_000_000 t.nominal && between 1 30_000_000_000 t.amount) (is_term t.trade t.last t.rate) k).1 in
      ruled (get_or (line_at s at).ends 2 0 + 1) t.trade t.first t.last t.rate (held_terms t) term
      ∙ ap₂ (λ (first last : Date). map (its_row (held_terms t)) (trade_days (eqb (trade_number t.trade) 1) first last)) first last

  module _ {line : Line} (l : Lined s at line 9) where
    terms_read : end (read_trade (fields_at s at)) ≡ trade_terms s line.ends
    terms_read =
        one_by_one (fields_at s at)
        ∙ (λ i. terms_from (trade_letter_lem (l.parts 0 (omega arith) i) i) (side_letter_lem (l.parts 1 (omega arith) i) i)
        (l.parts 2 (omega arith) i) (l.parts 3 (omega arith) i) (l.parts 4 (omega arith) i) (l.parts 6 (omega arith) i) (l.parts 7 (omega arith) i))

    row_read : by_terms (trade_terms s line.ends) ≡ trade_read s at
    row_read =
        sym
        (by_kept_dates (held_row s at) (line_at s at).next (trade_kind 0 (λ code. none)) (fields_at s at) its_days its_row
        l.count trade_fields (λ t. trade_dates t.trade t.first t.last) (λ t. refl) held_terms dated
        ∙ ap by_terms terms_read)

    -- What the fields gave, and of which texts the days are
    module _ {read : answers.Option Terms} (reads : read ≡ answer (trade_terms s line.ends)) where
      pub terms_refused : {f : Refusal} → ok_or read (refusal 6) ≡ Err f → Err f ≡ trade_read s at
      terms_refused e =
          dated_none (held_row s at) (line_at s at).next (trade_kind 0 (λ code. none)) (fields_at s at) its_days its_row (trade_terms s line.ends) reads e
          ∙ row_read

      module _ {terms : Terms} (e : ok_or read (refusal 6) ≡ Ok terms) {first last : Text}
          (from : first ≡ field_text s line.ends 5) (to : last ≡ field_text s line.ends 6)
          {days : answers.Option (Day × Day)} (is : days ≡ answer (trade_days (eqb terms.trade 1) (date_in first) (date_in last))) where
        days_are : days ≡ answer (its_days terms)
        days_are =
            is
            ∙ ap₂ (λ (first last : Text). answer (trade_days (eqb terms.trade 1) (date_in first) (date_in last)))
            (from ∙ sym (l.parts 5 (omega arith))) (to ∙ sym (l.parts 6 (omega arith)))

        pub days_refused : {f : Refusal} → ok_or days (refusal 7) ≡ Err f → Err f ≡ trade_read s at
        days_refused k =
            dated_refused (held_row s at) (line_at s at).next (trade_kind 0 (λ code. none)) (fields_at s at) its_days its_row (trade_terms s line.ends) reads e
            days_are k
            ∙ row_read

        pub days_taken : {d : Day × Day} → ok_or days (refusal 7) ≡ Ok d → Ok (whole_row (get_or line.ends 2 0 + 1) terms d, line.next) ≡ trade_read s at
        days_taken {d} k =
            ap (λ (l : Line). Ok (whole_row (get_or l.ends 2 0 + 1) terms d, l.next)) l.same
            ∙ dated_taken (held_row s at) (line_at s at).next (trade_kind 0 (λ code. none)) (fields_at s at) its_days its_row (trade_terms s line.ends) reads e
            days_are k
            ∙ row_read
