-- The report (01, "Report and refusal numbers"; 02, e): M lines, then for each currency its K lines and its Z line.
use Rattle.std.specs.Prelude.{Bool, true, false, not, ◌&&◌, ◌||◌, List, [], ◌∷◌, ◌++◌, map, eqb}
use Rattle.paper.specs.Units.{Text, Currency, SignedCents, Whole}
use Rattle.paper.specs.Lists.{sum, only, joined_up}
use Rattle.paper.specs.Signs.{signed_sum}
use Rattle.paper.specs.Text.{ascii, line_of, digits, signed_digits, same}
use Rattle.paper.specs.Rows.{ClassRow, Tables}
use Rattle.paper.specs.Currencies.{currencies}
use Rattle.paper.specs.Valuation.{Valued, valued_in}
use Rattle.paper.specs.Offsetting.{nets_in, Book, position, opening, offset_all, margin, total}

-- M;line;currency;mark-to-market, for a margined trade: cents
abbrev pub trade_line : Valued → Text
trade_line v = line_of (ascii "M" ∷ digits v.line ∷ v.security.currency ∷ signed_digits v.mark ∷ [])

-- The margin of a class, whole units, from its remaining positions
abbrev pub margin_of : Book → ClassRow → Whole
margin_of b c = margin c.deposit (position b.long c.class) (position b.short c.class)

-- K;currency;class;long;short;margin, for a class in a currency: remaining positions and margin in whole units
unfoldable pub class_line : Currency → Book → ClassRow → Text
class_line currency b c =
    line_of
    (ascii "K" ∷ currency ∷ digits c.class ∷ digits (position b.long c.class) ∷ digits (position b.short c.class)
    ∷ digits (margin_of b c) ∷ [])

-- Which K lines a report has (02, e)
abbrev pub Listing : Type 0
Listing = Bool

-- ... one for every class
abbrev pub full : Listing
full = true

-- ... none of zeros
abbrev pub quiet : Listing
quiet = false

-- Whether a class's remaining long and short and its margin, whole units, are all zero
abbrev pub all_zero : Book → ClassRow → Bool
all_zero b c = eqb (position b.long c.class) 0 && eqb (position b.short c.class) 0 && eqb (margin_of b c) 0

-- Whether a class has its K line
abbrev pub is_listed : Listing → Book → ClassRow → Bool
is_listed listing b c = listing || not (all_zero b c)

-- Z;currency;mark-to-market;initial;total, for a currency: cents, whole units, cents
abbrev pub currency_line : Currency → SignedCents → Whole → Text
currency_line currency mark initial =
    line_of (ascii "Z" ∷ currency ∷ signed_digits mark ∷ digits initial ∷ digits (total initial mark) ∷ [])

-- The mark-to-market sum of a currency's margined trades, in cents
abbrev pub mark_in : Currency → List Valued → SignedCents
mark_in c vs = signed_sum (map (λ v. v.mark) (only (λ v. same v.security.currency c) vs))

-- A currency's lines: K for each class that is listed, by rising number, and Z; the initial margin is the sum of all class margins
unfoldable pub currency_lines : Listing → Tables → List Valued → Currency → Text
currency_lines listing t vs c =
    let remaining = offset_all t.priorities (opening (nets_in t vs c)) in
    joined_up (map (class_line c remaining) (only (is_listed listing remaining) t.classes))
    ++ currency_line c (mark_in c vs) (sum (map (margin_of remaining) t.classes))

-- The report of tables
unfoldable pub report_of : Listing → Tables → Text
report_of listing t =
    let vs = valued_in t in
    joined_up (map trade_line vs) ++ joined_up (map (currency_lines listing t vs) (currencies t.securities))
