-- The paper's figures of tables, as the code holds them.
use Rattle.std.specs.Prelude.{true, false, map, pos}
use Rattle.std.proofs.Math.Option.{none, some}
use Rattle.paper.specs.Units as units
use Rattle.paper.specs.Units.{SignedCents}
use Rattle.paper.specs.Days.{day}
use Rattle.paper.specs.Lists.{sum}
use Rattle.paper.specs.Rows.{TradeRow, Tables}
use Rattle.paper.specs.Currencies.{currencies}
use Rattle.paper.specs.Valuation.{margined, security_of, valued, valued_in}
use Rattle.paper.specs.Offsetting.{nets_in, opening, offset_all, total}
use Rattle.paper.specs.Report.{margin_of, mark_in}
use Rattle.tables.specs.Padded.{padded}
use Rattle.offsetting.specs.Books.{held_book}
use Rattle.margin.specs.declared.Currency.{Currency}
use Rattle.margin.specs.declared.Figures.{Figures}

-- The mark-to-market of a trade, cents; 0 where it is not margined
abbrev pub mark_of : Tables → TradeRow → SignedCents
mark_of t r =
    elim (margined (day t.date) r) [
      | false ↦ pos 0
      | true ↦ elim (security_of t.securities r.code) [ none ↦ pos 0 | some s ↦ (valued (day t.date) 0 r s).mark ]
    ]

-- The figures of a currency
abbrev pub held_currency : Tables → units.Currency → Currency
held_currency t c =
    let remaining = offset_all t.priorities (opening (nets_in t (valued_in t) c)) in
    let mark = mark_in c (valued_in t) in
    let initial = sum (map (margin_of remaining) t.classes) in
    record {
      book = held_book remaining;
      margins = padded 40 0 (map (margin_of remaining) t.classes);
      mark = mark;
      initial = initial;
      total = total initial mark;
    }

-- The figures of tables
abbrev pub held_figures : Tables → Figures
held_figures t =
    record {
      marks = padded 500 (pos 0) (map (mark_of t) t.trades);
      currencies = record { items = map (held_currency t) (currencies t.securities) };
    }
