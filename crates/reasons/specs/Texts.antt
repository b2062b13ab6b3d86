-- A question's answer, and the explanation's text, from the tables as the code holds them.
use Rattle.std.specs.Prelude.{ℕ, suc, ◌+◌, ◌-◌, max, ◌≤◌, ◌<◌, Bool, true, false, ◌&&◌, List, [], ◌++◌, map, eqb, ltb, pos, length, get_or, take, Option, None, Ok, Err}
use Rattle.std.specs.Bool.{then_some}
use Rattle.std.proofs.Math.Option.{none, some}
use Rattle.paper.specs.Units.{Text, Line, Class, SignedCents, Whole, SignedWhole}
use Rattle.paper.specs.Lists.{joined_up}
use Rattle.paper.specs.Rounding.{rounded}
use Rattle.paper.specs.Refusals.{has_class}
use Rattle.paper.specs.Offsetting.{Book, position, offset_all}
use Rattle.paper.specs.Explanation.{is_net, setter_of, setter_line}
use Rattle.tables.specs.Blanks.{no_security}
use Rattle.tables.specs.Back.{paper_classes}
use Rattle.tables.specs.Ranks.{ranked_of}
use Rattle.tables.specs.declared.PriorityRow.{PriorityRow}
use Rattle.tables.specs.declared.Securities.{Securities}
use Rattle.tables.specs.declared.Tables.{Tables}
use Rattle.codes.specs.Counts.{currency_in}
use Rattle.offsetting.specs.Books.{row_of}
use Rattle.margin.specs.Openings.{from_rank}
use Rattle.margin.specs.Figures.{opening_of, opening_book, TablesRanged}
use Rattle.lines.specs.Written.{code_text, security_line, taken_line}

-- The rank of a currency, by any bytes, where the tables have it and a class, by any number
abbrev pub asked_of : Tables → Text → Class → Option ℕ
asked_of t currency class =
    elim (currency_in currency) [
      | none ↦ None
      | some own ↦ elim (ranked_of t.securities.currencies.items own) [
        | Ok rank ↦ then_some (has_class (paper_classes t.classes) class) rank
        | Err rank ↦ None
      ]
    ]

-- The P line of a security, by the number of its code, where it is one of those asked for and has a net in whole units
abbrev pub net_line_if : Bool → ℕ → SignedWhole → Text
net_line_if own code net = elim (own && is_net net) [ true ↦ security_line (code_text code) net | false ↦ [] ]

-- ... of the S row at a place, for the currency of a rank and a class; worths in cents
abbrev pub net_text : Securities → List SignedCents → ℕ → Class → ℕ → Text
net_text ss worths rank class i =
    let row = get_or ss.rows.items i no_security in
    net_line_if (eqb row.currency rank && eqb row.class class) (get_or ss.codes i 0) (rounded (get_or worths i (pos 0)) 100)

-- The P lines of the S rows
abbrev pub net_texts : Securities → List SignedCents → ℕ → Class → Text
net_texts ss worths rank class = joined_up (from_rank (net_text ss worths rank class) (length ss.rows.items) 0)

-- The R line of a row, where it took something: whole units
abbrev pub taken_line_if : Line → Whole → Whole → Text
taken_line_if line long short = elim (ltb 0 (long + short)) [ true ↦ taken_line line long short | false ↦ [] ]

-- ... by the positions that it met and those that it left, for a class
abbrev pub row_text : Line → Class → Book → Book → Text
row_text line class met left =
    taken_line_if line (position met.long class - position left.long class) (position met.short class - position left.short class)

-- The positions that so many rows leave, whole units
abbrev pub left_by : List PriorityRow → Book → ℕ → Book
left_by os b many = offset_all (map row_of (take many os)) b

-- The R line of the O row at a place; the first row stands at a line
abbrev pub row_text_at : Line → List PriorityRow → Class → Book → ℕ → Text
row_text_at first os class b i = row_text (first + i) class (left_by os b i) (left_by os b (suc i))

-- The B line of positions, for a class
abbrev pub setter_text : Class → Book → Text
setter_text class b =
    let long = position b.long class in
    let short = position b.short class in
    setter_line (setter_of long short) (max long short)

-- The R lines of the O rows, and the B line of what they leave
abbrev pub remaining_text : Line → List PriorityRow → Class → Book → Text
remaining_text first os class b =
    joined_up (from_rank (row_text_at first os class b) (length os) 0) ++ setter_text class (left_by os b (length os))

-- The whole text, for the currency of a rank and a class
abbrev pub reason_text : Tables → ℕ → Class → Text
reason_text t rank class =
    net_texts t.securities (opening_of t rank).worths rank class
    ++ remaining_text (3 + length t.classes.items) t.priorities.items class (opening_book t rank)

-- What writing asks: tables within the ranges of the rules, and a currency and a class that have their places
pub record Explainable (t : Tables) (rank : ℕ) (class : Class) : Type 0 where
  pub ranged : TablesRanged t
  pub rank_low : rank < 8
  pub class_low : class ≤ 40
