-- Why a class's margin is what it is (02, c): the nets that make its positions, what each row of the priority list took from
-- them, and the remaining side that set the margin. And the lines of it: P, R, B.
use Rattle.std.specs.Prelude.{suc, ◌+◌, ◌-◌, max, Bool, true, false, ◌&&◌, List, [], ◌∷◌, ◌++◌, map, eqb, ltb, nat_abs, length}
use Rattle.paper.specs.Units.{Text, Line, Class, Currency, Whole, SignedWhole}
use Rattle.paper.specs.Lists.{only, joined_up}
use Rattle.paper.specs.Text.{ascii, line_of, digits, signed_digits}
use Rattle.paper.specs.Rows.{Tables}
use Rattle.paper.specs.Valuation.{valued_in}
use Rattle.paper.specs.Offsetting.{Netted, nets_in, position, Turn, turns, opening_in, remaining_in}

-- What a row took from a class, off its long and off its short: whole units. The row by its line of the sheet
pub record Took : Type 0 where
  pub line : Line
  pub long : Whole
  pub short : Whole

-- Which remaining side set the margin: the long, the short, or both, where they are equal
pub data Setter : Type 0 where
  by_long by_short by_both : Setter

-- The explanation: the nets of the class's securities that are not zero and the rows that took something from it, both in
-- sheet order; the side that set the margin, and its amount in whole units
pub record Explanation : Type 0 where
  pub nets : List Netted
  pub rows : List Took
  pub setter : Setter
  pub amount : Whole

-- ---- from the tables

-- Whether a net is not zero
abbrev pub is_net : SignedWhole → Bool
is_net net = ltb 0 (nat_abs net)

-- Whether a security of a class is listed
abbrev pub listed : Class → Netted → Bool
listed n s = eqb s.class n && is_net s.net

-- What a row took from a class: what it met less what it left
abbrev pub took_at : Class → Line → Turn → Took
took_at n at u =
    record {
      line = at;
      long = position u.met.long n - position u.left.long n;
      short = position u.met.short n - position u.left.short n;
    }

-- ... of rows that stand one below the other, the first at a line
abbrev pub took_from : Class → Line → List Turn → List Took
took_from n at [] = []
took_from n at (u ∷ us) = took_at n at u ∷ took_from n (suc at) us

-- Whether a row took something
abbrev pub took_any : Took → Bool
took_any r = ltb 0 (r.long + r.short)

-- The line of the first O row: behind the header, the D row and the C rows
abbrev pub priorities_line : Tables → Line
priorities_line t = 3 + length t.classes

-- The side that set the margin, of a remaining long and short in whole units
abbrev pub setter_of : Whole → Whole → Setter
setter_of long short = elim (eqb long short) [
  | true ↦ by_both
  | false ↦ elim (ltb short long) [ true ↦ by_long | false ↦ by_short ]
]

-- The explanation of a class in a currency. The rows' turns are those that the remaining positions come from
unfoldable pub explanation_of : Tables → Currency → Class → Explanation
explanation_of t c n =
    let long = position (remaining_in t c).long n in
    let short = position (remaining_in t c).short n in
    record {
      nets = only (listed n) (nets_in t (valued_in t) c);
      rows = only took_any (took_from n (priorities_line t) (turns t.priorities (opening_in t c)));
      setter = setter_of long short;
      amount = max long short;
    }

-- ---- its lines

-- P;code;net, for a security: whole units
abbrev pub net_line : Netted → Text
net_line s = line_of (ascii "P" ∷ s.code ∷ signed_digits s.net ∷ [])

-- R;line;off long;off short, for a row of the priority list: whole units
abbrev pub took_line : Took → Text
took_line r = line_of (ascii "R" ∷ digits r.line ∷ digits r.long ∷ digits r.short ∷ [])

-- The letter of the side that set the margin
abbrev pub setter_letter : Setter → Text
setter_letter by_long = ascii "L"
setter_letter by_short = ascii "S"
setter_letter by_both = ascii "E"

-- B;side;amount: whole units
abbrev pub setter_line : Setter → Whole → Text
setter_line side amount = line_of (ascii "B" ∷ setter_letter side ∷ digits amount ∷ [])

-- The explanation's text
unfoldable pub explanation_text : Explanation → Text
explanation_text e =
    joined_up (map net_line e.nets) ++ (joined_up (map took_line e.rows) ++ setter_line e.setter e.amount)
