-- Positions: how large the opening ones are, and the margins on any.
use Prim.Native.Nat.{ℕ, zero, suc, ◌+◌, ◌≤◌, ◌<◌}
use native.Mathlib.Nat.{le_trans, mul-le-mul_right}
use native.Mathlib.Omega.{arith}
use mathlib.Core.List.{List, [], ◌∷◌}
use mathlib.Core.Path.{◌≡◌, refl, sym, ap, ap₂, ◌∙◌}
use lib.IntN.{pos, nat_abs}
use lib.ListN.{length, get_or, set}
use mir.Syntax.{w64}
use mir.Val.{to_z, of_z}
use Rattle.std.proofs.lemmas.List.{get_or_default}
use Rattle.paper.specs.Units.{Class, SignedCents, Whole, SignedWhole}
use Rattle.paper.specs.Rounding.{rounded}
use Rattle.paper.specs.Signs.{above_zero, below_zero}
use Rattle.paper.specs.Lists.{Each}
use Rattle.paper.specs.Offsetting as paper
use Rattle.paper.specs.Offsetting.{position}
use Rattle.paper.specs.Bounds.{most_net_cents, most_net, most_position, most_initial, most_mark_sum, BookFacts}
use Rattle.paper.proofs.Lists.{each_map}
use Rattle.paper.proofs.Sizes.{rounded_at_most, above_within, below_within}
use Rattle.paper.proofs.Totals.{margin_on_most, margins_most}
use Rattle.whole.proofs.Signs.{read_back}
use Rattle.tables.specs.declared.ClassRow.{ClassRow}
use Rattle.tables.specs.declared.Security.{Security}
use Rattle.tables.specs.declared.Tables.{Tables}
use Rattle.tables.specs.declared.Trade.{Trade}
use Rattle.offsetting.specs.Books.{book_of}
use Rattle.offsetting.specs.declared.Book.{Book}
use Rattle.margin.specs.Sums.{sums_of}
use Rattle.margin.specs.Openings.{Net, from_rank, net_at, nets_of, no_book, with_net, openings_of, Seated}
use Rattle.margin.specs.Figures.{margin_in, margins_of, trade_sums, opening_of, opening_book, ClassRanged, TablesRanged, Opened}
use Rattle.margin.specs.declared.Sums.{Sums}
use Rattle.margin.proofs.Gathered.{same_at, gathered_length, gathered_most}
use Rattle.margin.proofs.Forwards.{ranks_many, ranks_each}
use Rattle.margin.proofs.Values.{table_worths_most, table_totals_most}

-- The net of a worth is as small as a security's: whole units
pub net_small : (worth : SignedCents) → nat_abs worth ≤ most_net_cents → nat_abs (rounded worth 100) ≤ most_net
net_small worth h = rounded_at_most worth most_net 100 (omega arith) h

-- An amount more in a class adds at most itself to the position of any: whole units
more_at : (ps : List Whole) (class : Class) (amount : Whole) (n : Class)
    → position (set ps class (position ps class + amount)) n ≤ amount + position ps n
more_at [] class amount n = omega arith
more_at (p ∷ ps) zero amount zero = omega arith
more_at (p ∷ ps) zero amount (suc n) = omega arith
more_at (p ∷ ps) (suc class) amount zero = omega arith
more_at (p ∷ ps) (suc class) amount (suc n) = more_at ps class amount n

module _ (ss : List Security) (worths : List SignedCents) (small : (i : ℕ) → nat_abs (get_or worths i (pos 0)) ≤ most_net_cents)
    (many from : ℕ) (few : many ≤ 200) (rank : ℕ) where
  -- The positions of a currency, from the nets of so many securities
  abbrev book : Book
  book = get_or (openings_of (from_rank (net_at ss worths) many from)) rank no_book

  -- Each position of one side is within the table of bounds: whole units
  side_most : (side : SignedWhole → Whole) → ((z : SignedWhole) → side z ≤ nat_abs z) → (part : Book → List Whole) (n : Class)
      → position (part no_book) n ≡ 0
      → ((class : Class) (net : SignedWhole) (b : Book) → position (part (with_net class net b)) n ≤ side net + position (part b) n)
      → position (part book) n ≤ most_position
  side_most side within part n empty more =
      le_trans
      (gathered_most (λ m b. with_net m.class m.net b) no_book 8 (λ m. m.rank) (λ m. m) (λ b. position (part b) n) (λ m. side m.net) empty
      (λ m b. more m.class m.net b) most_net
      (ranks_each (net_at ss worths) (λ i. le_trans (within _) (net_small _ (small i))) many from) rank)
      (rw (ranks_many (net_at ss worths) many from) (mul-le-mul_right most_net few))

  pub book_most : BookFacts (book_of book)
  book_most =
      record {
        long = λ n. side_most above_zero above_within (λ b. b.long) n (same_at 0 41 n) (λ class net b. more_at b.long class (above_zero net) n);
        short = λ n. side_most below_zero below_within (λ b. b.short) n (same_at 0 41 n) (λ class net b. more_at b.short class (below_zero net) n);
      }

-- The positions in a currency are there, whatever else would stand past the last
pub book_there : (ns : List Net) {openings : List Book} → openings ≡ openings_of ns → (rank : ℕ) → rank < 8 → (other : Book)
    → get_or openings rank other ≡ get_or (openings_of ns) rank no_book
book_there ns e rank low other =
    rw e
    (get_or_default (openings_of ns) rank other no_book
    (omega (arith, gathered_length (λ n b. with_net n.class n.net b) no_book 8 (λ n. n.rank) (λ n. n) ns)))

-- Those of tables are so
pub opening_most : (t : Tables) → TablesRanged t → length t.trades.items ≤ 500 → length t.securities.rows.items ≤ 200 → (rank : ℕ)
    → BookFacts (opening_book t rank)
opening_most t ranged trades securities =
    book_most t.securities.rows.items (trade_sums t).worths (table_worths_most t ranged trades) (length t.securities.rows.items) 0 securities

-- Sums over rows are those over a slice of them
pub over_slice : (ts : List Trade) {ss rows : List Security} {sums : Sums} → sums ≡ sums_of rows ts → ss ≡ rows → sums ≡ sums_of ss ts
over_slice ts summed same = summed ∙ ap (λ (ss : List Security). sums_of ss ts) (sym same)

-- Slices that are the rows of tables, and their sums
module _ (t : Tables) (ranged : TablesRanged t) {ts : List Trade} {ss : List Security} (trades : ts ≡ t.trades.items)
    (securities : ss ≡ t.securities.rows.items) (few_trades : length ts ≤ 500) (few_securities : length ss ≤ 200)
    {sums : Sums} (summed : sums ≡ sums_of ss ts) where
  sums_are : sums ≡ trade_sums t
  sums_are = summed ∙ ap₂ sums_of securities trades

  -- The worths are small: cents
  worths_small : (k : ℕ) → nat_abs (get_or sums.worths k (pos 0)) ≤ most_net_cents
  worths_small = rw sums_are (table_worths_most t ranged (rw trades at few_trades))

  -- What opening positions asks for
  pub opens : (length ss ≤ 200) × Each Seated ss × ((k : ℕ) → nat_abs (get_or sums.worths k (pos 0)) ≤ most_net_cents)
  opens = (few_securities, rw securities ranged.securities, worths_small)

  -- The mark-to-market sum of a currency is that of the tables, and small: cents
  pub total_is : (k : ℕ) → to_z w64 (of_z w64 (get_or sums.totals k (pos 0))) ≡ get_or (trade_sums t).totals k (pos 0)
  total_is k = rw sums_are (read_back _ refl (omega (arith, table_totals_most t ranged (rw trades at few_trades) k)))

  pub total_small : (k : ℕ) → nat_abs (to_z w64 (of_z w64 (get_or sums.totals k (pos 0)))) ≤ most_mark_sum
  total_small k = rw (total_is k) (table_totals_most t ranged (rw trades at few_trades) k)

  -- The positions in a currency are what it begins with, and within the table of bounds
  module _ {openings : List Book} (opened : openings ≡ openings_of (nets_of ss sums.worths)) (k : ℕ) (low : k < 8) (other : Book) where
    pub book_is : get_or openings k other ≡ (opening_of t k).book
    book_is =
        book_there (nets_of t.securities.rows.items (trade_sums t).worths)
        (opened ∙ ap₂ (λ (ss : List Security) (s : Sums). openings_of (nets_of ss s.worths)) securities sums_are)
        k
        low
        other

    pub book_small : BookFacts (book_of (get_or openings k other))
    book_small = rw book_is (opening_most t ranged (rw trades at few_trades) (rw securities at few_securities) k)

    pub opened_small : Opened (record { worths = sums.worths; book = get_or openings k other })
    opened_small = record { worths = worths_small; book = book_small }

-- The margins of classes on positions within the table of bounds come to no more than it says: whole units
pub initial_most : (b : paper.Book) {cs : List ClassRow} → length cs ≤ 40 → Each ClassRanged cs → BookFacts b → (margins_of b cs).initial ≤ most_initial
initial_most b {cs} few each within =
    margins_most (margin_in b) cs few (each_map (λ r f. margin_on_most r.deposit r.class b f.deposit within) each)
