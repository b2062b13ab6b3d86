-- The report's text, from the tables and the figures as the code holds them.
use Rattle.std.specs.Prelude.{ℕ, ◌+◌, ◌≤◌, ◌<◌, ◌^◌, Bool, true, false, not, ◌&&◌, ◌||◌, [], ◌++◌, map, eqb, pos, nat_abs, length, get_or}
use Rattle.std.specs.List.{zip}
use Rattle.paper.specs.Units.{Text, Line, Class, SignedCents, Whole}
use Rattle.paper.specs.Lists.{joined_up, Each}
use Rattle.paper.specs.Offsetting.{position}
use Rattle.paper.specs.Report.{Listing}
use Rattle.arrayvec.specs.ArrayVec.{ArrayVec}
use Rattle.tables.specs.Blanks.{no_class, no_security, no_trade}
use Rattle.tables.specs.declared.ClassRow.{ClassRow}
use Rattle.tables.specs.declared.Tables.{Tables}
use Rattle.margin.specs.Openings.{from_rank}
use Rattle.margin.specs.Figures.{TablesFew}
use Rattle.margin.specs.declared.Currency.{Currency}
use Rattle.margin.specs.declared.Figures.{Figures}
use Rattle.lines.specs.Written.{money_text, mark_line, position_line, total_line}

-- The line of the first T row: behind the header, the D row and the other tables
abbrev pub first_line : Tables → Line
first_line t = 3 + length t.classes.items + length t.priorities.items + length t.securities.rows.items

-- The number of the currency of a rank
abbrev pub money_at : Tables → ℕ → ℕ
money_at t rank = get_or t.securities.currencies.items rank 0

-- The M line of a trade, by the number of its currency, in cents; none where it is not margined
abbrev pub marked : Bool → Line → ℕ → SignedCents → Text
marked false line money mark = []
marked true line money mark = mark_line line (money_text money) mark

-- ... of the T row at a place of its table
abbrev pub mark_text : Tables → Figures → ℕ → Text
mark_text t f i =
    let trade = get_or t.trades.items i no_trade in
    let security = get_or t.securities.rows.items trade.security no_security in
    marked trade.margined (first_line t + i) (money_at t security.currency) (get_or f.marks i (pos 0))

-- ... of all T rows
abbrev pub mark_texts : Tables → Figures → Text
mark_texts t f = joined_up (from_rank (mark_text t f) (length t.trades.items) 0)

-- The K line of a class, by the number of the currency, in whole units; in a quiet report none where all three are zero
abbrev pub listed_line : Listing → ℕ → Class → Whole → Whole → Whole → Text
listed_line listing money class long short margin =
    elim (listing || not (eqb long 0 && eqb short 0 && eqb margin 0)) [
      | true ↦ position_line (money_text money) class long short margin
      | false ↦ []
    ]

-- ... of the C row at a place of its table
abbrev pub position_text : Listing → ℕ → ArrayVec ClassRow → Currency → ℕ → Text
position_text listing money cs c i =
    let class = (get_or cs.items i no_class).class in
    listed_line listing money class (position c.book.long class) (position c.book.short class) (get_or c.margins i 0)

-- ... of all C rows
abbrev pub position_texts : Listing → ℕ → ArrayVec ClassRow → Currency → Text
position_texts listing money cs c = joined_up (from_rank (position_text listing money cs c) (length cs.items) 0)

-- The lines of a currency, by its number
abbrev pub lines_of : Listing → ArrayVec ClassRow → ℕ × Currency → Text
lines_of listing cs (money, c) =
    position_texts listing money cs c ++ total_line (money_text money) c.mark c.initial c.total

-- ... of all currencies, each with its figures
abbrev pub currency_texts : Listing → Tables → Figures → Text
currency_texts listing t f =
    joined_up (map (lines_of listing t.classes) (zip t.securities.currencies.items f.currencies.items))

-- The whole text: M lines, then each currency's
abbrev pub report_text : Listing → Tables → Figures → Text
report_text listing t f = mark_texts t f ++ currency_texts listing t f

-- Classes that have their places
abbrev pub Classed : ArrayVec ClassRow → Type 0
Classed cs = Each (λ row. row.class ≤ 40) cs.items

-- What writing asks: classes that have their places, and currencies with numbers of three letters
pub record Writable (t : Tables) : Type 0 where
  pub classes : Classed t.classes
  pub money : Each (λ number. number < 79_507) t.securities.currencies.items

-- Tables and figures that stand in their places, with signed figures that fit 64 bits
pub record WritableFigures (t : Tables) (f : Figures) : Type 0 where
  pub few : TablesFew t
  pub security : (i : ℕ) → (get_or t.trades.items i no_trade).security < 200
  pub currency : (i : ℕ) → (get_or t.securities.rows.items i no_security).currency < 8
  pub mark : (i : ℕ) → nat_abs (get_or f.marks i (pos 0)) < 2 ^ 63
  pub sum : Each (λ c. nat_abs c.mark < 2 ^ 63) f.currencies.items
