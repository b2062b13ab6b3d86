-- The T section's room, and how its rows are judged: what the code makes of a row, by the table of the securities, is what the paper
-- makes of it.
use Prim.Native.Nat.{ℕ, ◌≤◌, ◌<◌}
use native.Mathlib.Omega.{arith}
use mathlib.Core.Bool.{Bool, true, false, cond, ◌&&◌}
use mathlib.Core.List.{List, [], ◌∷◌}
use mathlib.Core.Option as maybe
use mathlib.Core.Option.{none, some}
use mathlib.Core.Path.{◌≡◌, refl, sym, ap, ap₂, ◌∙◌}
use Rattle.std.proofs.Common.{Option, Some, None, Result, Ok, Err}
use Rattle.std.specs.Bool.{then_some}
use borrow.Author.Tests.{ltb-true, ltb-false}
use lib.Dec.{T, eqb, leb, ltb}
use lib.ListN.{length, get_or, take}
use lib.Seq.{length-take-le}
use Rattle.std.proofs.lemmas.List.{get_or_past}
use Rattle.paper.specs.Units.{Text, Day}
use Rattle.paper.specs.Days.{day, working_after}
use Rattle.paper.specs.Lists.{given}
use Rattle.paper.specs.Text.{is_code}
use Rattle.paper.specs.Rows as paper
use Rattle.paper.specs.Rows.{repo, cash}
use Rattle.paper.specs.Valuation.{last_day, margined, accrual_day}
use Rattle.paper.specs.Refusals.{RowKind, Period, in_period, trade_kind}
use Rattle.paper.specs.Tables.{hold}
use Rattle.paper.proofs.Days.{day_low}
use Rattle.paper.proofs.Lists.{tests}
use Rattle.places.specs.Places.{Place}
use Rattle.answers.specs.Options.{answer}
use Rattle.answers.specs.Refusals.{refusal}
use Rattle.answers.specs.declared.Refusal.{Refusal}
use Rattle.answers.specs.declared.Refusal.TheVariants.{Count, Missing}
use Rattle.answers.specs.declared.Refusal.TheVariants as refusals
use Rattle.tables.specs.Numbers.{trade_number, number_place}
use Rattle.arrayvec.specs.ArrayVec.{ArrayVec}
use Rattle.tables.specs.Blanks.{no_security}
use Rattle.tables.specs.Held.{held_trade, trade_table}
use Rattle.tables.specs.Ranks.{Searchable}
use Rattle.tables.specs.declared.Securities.{Securities}
use Rattle.tables.specs.declared.Trade.{Trade}
use Rattle.tables.proofs.Numbers.{trade_most, side_most}
use Rattle.sections.specs.Sections.{broken}
use Rattle.sections.proofs.Loops.{Kept, more_kept}
use Rattle.sections.proofs.Rooms.{Room, Judge}
use Rattle.trades.specs.Read.{held_row}
use Rattle.trades.specs.Found.{period_of, period_in, margined_on, period_holds, Small, trade_of, judged_of}
use Rattle.trades.specs.declared.TradeRow.{TradeRow}

-- Trade 1 is cash
margined_alike : (trade : paper.Trade) (today first last : Day)
    → margined_on (eqb (trade_number trade) 1) today first last
    ≡ elim trade [ cash ↦ ltb today first | repo ↦ leb first today && ltb today last ]
margined_alike repo today first last = refl
margined_alike cash today first last = refl

accrual_alike : (trade : paper.Trade) (first working : Day)
    → cond (eqb (trade_number trade) 1) first working ≡ elim trade [ cash ↦ first | repo ↦ working ]
accrual_alike repo first working = refl
accrual_alike cash first working = refl

-- Codes that can be searched are as many as are counted
pub codes_counted : (codes : List ℕ) (count : ℕ) → (count ≤ 200) × Searchable codes count → length (take count codes) ≡ count
codes_counted codes count (few, s) = go (ltb 255 (length codes)) refl
  where
    go : (b : Bool) → ltb 255 (length codes) ≡ b → length (take count codes) ≡ count
    go true e = length-take-le count codes (omega (arith, ltb-true 255 (length codes) e))
    go false e =
        absurd (omega (arith, s.rest 255 (omega arith) (omega arith), get_or_past codes 255 0 (ltb-false 255 (length codes) e)))

-- The refusal of what is judged, where it is one
abbrev pub refusal_of : Result Trade Refusal → Option Refusal
refusal_of (Ok trade) = None
refusal_of (Err f) = Some f

module _ (today : Day) (securities : Securities) where
  abbrev kind : RowKind paper.TradeRow
  kind = trade_kind today (period_in securities)

  abbrev codes : List ℕ
  codes = take (length securities.rows.items) securities.codes

  -- The room
  abbrev pub room : Room paper.TradeRow TradeRow Trade (ArrayVec Trade)
  room =
      record {
        kind = trade_kind today (period_in securities);
        letter = 84;
        its_letter = refl;
        held = held_row;
        most = 500;
        kept = held_trade today (take (length securities.rows.items) securities.codes);
        table = trade_table today (take (length securities.rows.items) securities.codes);
      }

  -- There was room for the last of rows that keep the rules
  pub few : {above : List paper.TradeRow} {t : paper.TradeRow} → Kept kind (t ∷ above) → length above < 500
  few (more_kept h kept) = search tests

  -- What a row's own rules say of its numbers
  pub small : (sheet : Text) (at : Place) (t : paper.TradeRow) → T (hold (kind.own t)) → Small (held_row sheet at t)
  small sheet at t own =
      record { nominal = search tests; first = day_low t.first; trade = trade_most t.trade; side = side_most t.side }

  -- A row is judged and kept as the paper's row is
  module _ (size : length codes ≡ length securities.rows.items) (sheet : Text) (at : Place) (t : paper.TradeRow) where
    abbrev held : TradeRow
    held = held_row sheet at t

    abbrev place : ℕ
    place = number_place codes held.terms.number

    -- By tests: there is room, its security is there
    abbrev by_tests : Bool → Bool → Bool → Day → Result Trade Refusal
    by_tests room there margined accrual =
        elim room [
          | false ↦ Err Count
          | true ↦ elim (then_some there place) [
            | None ↦ Err Missing
            | Some place ↦ elim (period_holds margined accrual (get_or securities.rows.items place no_security)) [
              | false ↦ Err refusals.Period
              | true ↦ Ok (trade_of held place margined accrual)
            ]
          ]
        ]

    told : (count : ℕ) → judged_of today (working_after today) securities count held
        ≡ by_tests (ltb count 500) (ltb place (length securities.rows.items)) (margined today t) (accrual_day today t)
    told count =
        let m = margined_on (eqb (trade_number t.trade) 1) today (day t.first) (last_day t) in
        let a = cond (eqb (trade_number t.trade) 1) (day t.first) (working_after today) in
        ap (λ (n : ℕ). by_tests (ltb count 500) (ltb place n) m a) size
        ∙ ap₂ (by_tests (ltb count 500) (ltb place (length securities.rows.items)))
        (margined_alike t.trade today (day t.first) (last_day t)) (accrual_alike t.trade (day t.first) (working_after today))

    abbrev period : Bool → maybe.Option Period
    period there = cond there (some (period_of (get_or securities.rows.items place no_security))) none

    pub alike : (above : List paper.TradeRow) → T (hold (kind.own t))
        → refusal_of (judged_of today (working_after today) securities (length above) held) ≡ answer (maybe.map refusal (broken (kind.others above t)))
    alike above own =
        let coded : is_code t.code ≡ true = search tests in
        let there = ltb place (length securities.rows.items) in
        ap refusal_of (told (length above))
        ∙ go (ltb (length above) 500) there
        ∙ ap (λ (is : Bool). let p = period (is && there) in answer (maybe.map refusal (broken ((8, ltb (length above) 500) ∷ (10, given p) ∷ (12, in_period today t p) ∷ [])))) (sym coded)
      where
        go : (room there : Bool) → refusal_of (by_tests room there (margined today t) (accrual_day today t))
            ≡ answer (maybe.map refusal (broken ((8, room) ∷ (10, given (period there)) ∷ (12, in_period today t (period there)) ∷ [])))
        go false there = refl
        go true false = refl
        go true true = test (in_period today t (period true))
          where
            test : (within : Bool) → refusal_of (elim within [ false ↦ Err refusals.Period | true ↦ Ok (trade_of held place (margined today t) (accrual_day today t)) ])
                ≡ answer (maybe.map refusal (broken ((8, true) ∷ (10, true) ∷ (12, within) ∷ [])))
            test false = refl
            test true = refl

    pub kept_alike : (count : ℕ) {trade : Trade} → judged_of today (working_after today) securities count held ≡ Ok trade → trade ≡ held_trade today codes t
    kept_alike count {trade} e = go (ltb count 500) (ltb place (length securities.rows.items)) (sym (told count) ∙ e)
      where
        go : (room there : Bool) → by_tests room there (margined today t) (accrual_day today t) ≡ Ok trade → trade ≡ held_trade today codes t
        go false there e = cc
        go true false e = cc
        go true true e = test (in_period today t (period true)) e
          where
            test : (within : Bool)
                → ◌≡◌ {A = Result Trade Refusal} (elim within [ false ↦ Err refusals.Period | true ↦ Ok (trade_of held place (margined today t) (accrual_day today t)) ]) (Ok trade)
                → trade ≡ held_trade today codes t
            test false e = cc
            test true e = let same : trade_of held place (margined today t) (accrual_day today t) ≡ trade = cc in sym same

  abbrev pub judge : length codes ≡ length securities.rows.items → Judge room (Unit {0})
  judge size =
      record {
        tell = λ above. tt;
        judge = λ seen count t. refusal_of (judged_of today (working_after today) securities count t);
        alike = λ sheet at above t kept own. alike size sheet at t above own;
        few = few;
      }
