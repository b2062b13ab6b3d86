-- The figures of tables as the code holds them: the paper's, of the numbers that the rows carry.
use Rattle.std.specs.Prelude.{ℕ, ◌≤◌, List, map, pos, nat_abs, length, get_or}
use Rattle.paper.specs.Units.{SignedCents, Whole}
use Rattle.paper.specs.Lists.{sum, Each}
use Rattle.paper.specs.Offsetting as paper
use Rattle.paper.specs.Offsetting.{position, offset_all, margin, total}
use Rattle.paper.specs.Bounds.{PriorityFacts, BookFacts, most_net_cents}
use Rattle.tables.specs.Padded.{padded}
use Rattle.tables.specs.declared.ClassRow.{ClassRow}
use Rattle.tables.specs.declared.PriorityRow.{PriorityRow}
use Rattle.tables.specs.declared.Tables.{Tables}
use Rattle.offsetting.specs.Books.{book_of, held_book, row_of}
use Rattle.offsetting.specs.declared.Book.{Book}
use Rattle.margin.specs.Sums.{sums_of, Placed}
use Rattle.margin.specs.Openings.{from_rank, nets_of, no_book, openings_of, Seated}
use Rattle.margin.specs.declared.Sums.{Sums}
use Rattle.margin.specs.declared.Opening.{Opening}
use Rattle.margin.specs.declared.Margins.{Margins}
use Rattle.margin.specs.declared.Currency.{Currency}
use Rattle.margin.specs.declared.Figures.{Figures}

-- The margin of a class, whole units, from remaining positions
abbrev pub margin_in : paper.Book → ClassRow → Whole
margin_in b c = margin c.deposit (position b.long c.class) (position b.short c.class)

-- The margins of classes, by the places of their rows, and their sum: whole units
abbrev pub margins_of : paper.Book → List ClassRow → Margins
margins_of b cs = record { each = padded 40 0 (map (margin_in b) cs); initial = sum (map (margin_in b) cs) }

-- The figures of a currency, from its remaining positions and its mark-to-market sum in cents
abbrev pub remaining_figures : List ClassRow → SignedCents → paper.Book → Currency
remaining_figures cs mark b =
    let margins = margins_of b cs in
    record {
      book = held_book b;
      margins = margins.each;
      mark = mark;
      initial = margins.initial;
      total = total margins.initial mark;
    }

-- The figures of a currency, from its opening positions
abbrev pub currency_of : List ClassRow → List PriorityRow → SignedCents → paper.Book → Currency
currency_of cs os mark b = remaining_figures cs mark (offset_all (map row_of os) b)

-- The sums of the trades
abbrev pub trade_sums : Tables → Sums
trade_sums t = sums_of t.securities.rows.items t.trades.items

-- The opening positions in each currency, whole units
abbrev pub table_openings : Tables → List Book
table_openings t = openings_of (nets_of t.securities.rows.items (trade_sums t).worths)

-- What the currency of a rank begins with: the worths of all securities in cents, its positions in whole units
abbrev pub opening_of : Tables → ℕ → Opening
opening_of t rank = record { worths = (trade_sums t).worths; book = get_or (table_openings t) rank no_book }

-- ... as the paper's book
abbrev pub opening_book : Tables → ℕ → paper.Book
opening_book t rank = book_of (opening_of t rank).book

-- The figures of the currency of a rank
abbrev pub currency_at : Tables → ℕ → Currency
currency_at t rank =
    currency_of t.classes.items t.priorities.items (get_or (trade_sums t).totals rank (pos 0)) (opening_book t rank)

-- The figures of tables
abbrev pub figures_of : Tables → Figures
figures_of t =
    record {
      marks = (trade_sums t).marks;
      currencies = record { items = from_rank (currency_at t) (length t.securities.currencies.items) 0 };
    }

-- A class within the ranges of the rules
pub record ClassRanged (c : ClassRow) : Type 0 where
  pub class : c.class ≤ 40
  pub deposit : c.deposit ≤ 10_000

-- Tables within the ranges of the rules
pub record TablesRanged (t : Tables) : Type 0 where
  pub classes : Each ClassRanged t.classes.items
  pub priorities : Each (λ o. PriorityFacts (row_of o)) t.priorities.items
  pub securities : Each Seated t.securities.rows.items
  pub trades : Each (Placed t.securities.rows.items) t.trades.items

-- Tables with no more rows and currencies than the rules let through
pub record TablesFew (t : Tables) : Type 0 where
  pub few_classes : length t.classes.items ≤ 40
  pub few_priorities : length t.priorities.items ≤ 200
  pub few_securities : length t.securities.rows.items ≤ 200
  pub few_trades : length t.trades.items ≤ 500
  pub few_currencies : length t.securities.currencies.items ≤ 8

-- What a currency begins with, within the table of bounds: worths in cents, positions in whole units
pub record Opened (o : Opening) : Type 0 where
  pub worths : (i : ℕ) → nat_abs (get_or o.worths i (pos 0)) ≤ most_net_cents
  pub book : BookFacts (book_of o.book)
