-- Laws of an explanation's rows, of the side that it names, and of the class's K line: what each row took, which side remains,
-- and where the line stands in the report.
use Prim.Native.Nat.{ℕ, zero, suc, ◌+◌, ◌-◌, ◌≤◌, ◌<◌, max}
use native.Mathlib.Omega.{arith}
use mathlib.Core.Bool.{Bool, true, false}
use mathlib.Core.List.{List, [], ◌∷◌, map, append-nil}
use mathlib.Core.Path.{◌≡◌, refl, sym, ap, ◌∙◌, subst, subst⁻¹}
use borrow.Author.Tests.{eqb-true, eqb-false, eq-eqb, ltb-true, ltb-false, lt-ltb}
use lib.Dec.{eqb, ltb}
use lib.ListN.{length, get_or, take}
use Rattle.paper.specs.Units.{Fields, Line, Class, Currency, SignedCents, Whole}
use Rattle.paper.specs.Lists.{sum, only, Each, nil, cons, InOrder, ended, ahead}
use Rattle.paper.specs.Text.{ascii, line_of, digits, signed_digits}
use Rattle.paper.specs.Rows.{ClassRow, PriorityRow, Tables}
use Rattle.paper.specs.Currencies.{has_currency}
use Rattle.paper.specs.Valuation.{Valued, valued_in}
use Rattle.paper.specs.Offsetting.{Book, position, nets_in, opening, offset_row, Turn, turns, offset_all, total, opening_in, remaining_in}
use Rattle.paper.specs.Report.{Listing, full, is_listed, trade_line, margin_of, class_line, currency_line, mark_in, currency_lines, report_of}
use Rattle.paper.specs.Explanation.{Took, by_long, by_short, by_both, took_at, took_from, took_any, priorities_line, setter_of}
use Rattle.paper.specs.Reasons.{Takes, TookSo, SetBy, HasLine}
use Rattle.paper.proofs.Lists.{each_map, each_at, each_place, each_kept, kept_each, none_kept, sum_kept, Among, each_among, joined_only, order_only}
use Rattle.paper.proofs.Lines.{IsLines, line_is, both_are, all_are, line_above, line_below, line_among}
use Rattle.paper.proofs.Currencies.{currency_among}
use Rattle.paper.proofs.Offsetting.{row_lowers}

-- ---- the rows

-- A side of a book for a class: its positions, what a row took off it, that this is what the row met less what it left, and
-- that no row lets it grow. Whole units
pub record Side (n : Class) : Type 0 where
  pub positions : Book → List Whole
  pub took : Took → Whole
  pub part : (r : Took) → took r ≤ r.long + r.short
  pub own : (at : Line) (u : Turn) → took (took_at n at u) ≡ position (positions u.met) n - position (positions u.left) n
  pub lowers : (o : PriorityRow) (b : Book) → position (positions (offset_row o b)) n ≤ position (positions b) n

-- Long and short are sides
abbrev pub long_side : (n : Class) → Side n
long_side n =
    record {
      positions = λ b. b.long;
      took = λ r. r.long;
      part = λ r. omega arith;
      own = λ at u. refl;
      lowers = λ o b. (row_lowers o b n).0;
    }

abbrev pub short_side : (n : Class) → Side n
short_side n =
    record {
      positions = λ b. b.short;
      took = λ r. r.short;
      part = λ r. omega arith;
      own = λ at u. refl;
      lowers = λ o b. (row_lowers o b n).1;
    }

-- A side is what remains of it and what all rows took off it
rows_took : {n : Class} (s : Side n) (at : Line) (os : List PriorityRow) (b : Book)
    → position (s.positions b) n ≡ position (s.positions (offset_all os b)) n + sum (map s.took (took_from n at (turns os b)))
unfolding offset_all
rows_took s at [] b = omega arith
rows_took s at (o ∷ os) b =
    omega (arith, rows_took s (suc at) os (offset_row o b), s.own at (record { met = b; left = offset_row o b }), s.lowers o b)

-- ... and what those took that took something
pub rows_off : {n : Class} (s : Side n) (at : Line) (os : List PriorityRow) (b : Book)
    → position (s.positions b) n
    ≡ position (s.positions (offset_all os b)) n + sum (map s.took (only took_any (took_from n at (turns os b))))
rows_off {n} s at os b =
    omega (
      arith,
      rows_took s at os b,
      sum_kept s.took took_any (λ r e. omega (arith, ltb-false 0 (r.long + r.short) e, s.part r)) (took_from n at (turns os b)),
    )

-- As many rows stand with what they took as there are
took_length : (n : Class) (at : Line) (os : List PriorityRow) (b : Book) → length (took_from n at (turns os b)) ≡ length os
took_length n at [] b = refl
took_length n at (o ∷ os) b = ap suc (took_length n (suc at) os (offset_row o b))

-- The turn of the row at a place: what the rows above it leave, and what they leave with it
abbrev turn_at : List PriorityRow → Book → ℕ → Turn
turn_at os b i = record { met = offset_all (take i os) b; left = offset_all (take (suc i) os) b }

-- No row, which took nothing
abbrev no_took : Took
no_took = record { line = 0; long = 0; short = 0 }

-- At a place stands what the row there took in its turn, by its line
took_at_lem : (n : Class) (at : Line) (os : List PriorityRow) (b : Book) (i : ℕ) → i < length os
    → get_or (took_from n at (turns os b)) i no_took ≡ took_at n (at + i) (turn_at os b i)
unfolding offset_all
took_at_lem n at [] b i h = absurd (omega arith)
took_at_lem n at (o ∷ os) b zero h = ap (λ (line : Line). took_at n line (turn_at (o ∷ os) b 0)) (omega arith)
took_at_lem n at (o ∷ os) b (suc i) h =
    took_at_lem n (suc at) os (offset_row o b) i (omega arith)
    ∙ ap (λ (line : Line). took_at n line (turn_at os (offset_row o b) i)) (omega arith)

-- What the row at a place meets is what it leaves and what it took
turn_takes : {n : Class} (s : Side n) (at : Line) (os : List PriorityRow) (b : Book) (i : ℕ)
    → position (s.positions (turn_at os b i).met) n ≡ position (s.positions (turn_at os b i).left) n + s.took (took_at n at (turn_at os b i))
unfolding offset_all
turn_takes s at [] b zero = omega (arith, s.own at (turn_at [] b 0))
turn_takes s at [] b (suc i) = omega (arith, s.own at (turn_at [] b 0))
turn_takes s at (o ∷ os) b zero = omega (arith, s.own at (turn_at (o ∷ os) b 0), s.lowers o b)
turn_takes s at (o ∷ os) b (suc i) = turn_takes s at os (offset_row o b) i

-- What each row took from a class in a currency
abbrev pub all_took : Tables → Currency → Class → List Took
all_took t c n = took_from n (priorities_line t) (turns t.priorities (opening_in t c))

-- ... and what the row at a place took
abbrev took_here : Tables → Currency → Class → ℕ → Took
took_here t c n i = took_at n (priorities_line t + i) (turn_at t.priorities (opening_in t c) i)

-- That is what the row takes
takes_here : (t : Tables) (c : Currency) (n : Class) (i : ℕ) → Takes t c n i (took_here t c n i).long (took_here t c n i).short
takes_here t c n i =
    record {
      long = turn_takes (long_side n) (priorities_line t + i) t.priorities (opening_in t c) i;
      short = turn_takes (short_side n) (priorities_line t + i) t.priorities (opening_in t c) i;
    }

-- ... and what stands at the place
took_here_lem : (t : Tables) (c : Currency) (n : Class) (i : ℕ) → i < length t.priorities
    → get_or (all_took t c n) i no_took ≡ took_here t c n i
took_here_lem t c n i h = took_at_lem n (priorities_line t) t.priorities (opening_in t c) i h

-- There are as many as rows
pub all_took_lem : (t : Tables) (c : Currency) (n : Class) → length (all_took t c n) ≡ length t.priorities
all_took_lem t c n = took_length n (priorities_line t) t.priorities (opening_in t c)

-- A listed row is one of the list, by its line, and took what it says, which is something
pub rows_own : (t : Tables) (c : Currency) (n : Class) → Each (TookSo t c n) (only took_any (all_took t c n))
rows_own t c n = each_kept took_any (all_took t c n) (each_place (all_took t c n) no_took at)
  where
    own : (i : ℕ) → i < length t.priorities → took_any (took_here t c n i) ≡ true → TookSo t c n (took_here t c n i)
    own i h e =
        record {
          place = i;
          there = h;
          line = refl;
          takes = takes_here t c n i;
          some = ltb-true 0 ((took_here t c n i).long + (took_here t c n i).short) e;
        }

    at : (i : ℕ) → i < length (all_took t c n) → took_any (get_or (all_took t c n) i no_took) ≡ true → TookSo t c n (get_or (all_took t c n) i no_took)
    at i h =
        let there : i < length t.priorities = omega (arith, all_took_lem t c n) in
        subst (λ (r : Took). took_any r ≡ true → TookSo t c n r) (sym (took_here_lem t c n i there)) (own i there)

-- A row that is not listed took nothing
pub rows_all : (t : Tables) (c : Currency) (n : Class) (i : ℕ) → i < length t.priorities
    → only (λ r. eqb r.line (priorities_line t + i)) (only took_any (all_took t c n)) ≡ [] → Takes t c n i 0 0
rows_all t c n i h e = go (took_any here) refl
  where
    at : Line
    at = priorities_line t + i

    here : Took
    here = took_here t c n i

    unlisted : Each (λ r. took_any r ≡ true → eqb r.line at ≡ true → ⊥) (all_took t c n)
    unlisted = kept_each took_any (all_took t c n) (none_kept (λ r. eqb r.line at) (only took_any (all_took t c n)) e)

    out : took_any here ≡ true → eqb at at ≡ true → ⊥
    out =
        subst (λ (r : Took). took_any r ≡ true → eqb r.line at ≡ true → ⊥) (took_here_lem t c n i h)
        (each_at i no_took unlisted (omega (arith, all_took_lem t c n)))

    go : (b : Bool) → took_any here ≡ b → Takes t c n i 0 0
    go true k = absurd (out k (eq-eqb at at refl))
    go false k =
        let none = ltb-false 0 (here.long + here.short) k in
        let takes = takes_here t c n i in
        record { long = omega arith; short = omega arith }

-- The rows' lines rise
took_behind : (n : Class) (line at : Line) (us : List Turn) → line < at → Each (λ r. ltb line r.line ≡ true) (took_from n at us)
took_behind n line at [] h = nil
took_behind n line at (u ∷ us) h = cons (lt-ltb line at h) (took_behind n line (suc at) us (omega arith))

took_order : (n : Class) (at : Line) (us : List Turn) → InOrder (λ r q. ltb r.line q.line) (took_from n at us)
took_order n at [] = ended
took_order n at (u ∷ us) = ahead (took_behind n at (suc at) us (omega arith)) (took_order n (suc at) us)

-- ... and so do those of the rows that are listed
pub rows_order : (t : Tables) (c : Currency) (n : Class) → InOrder (λ r q. ltb r.line q.line) (only took_any (all_took t c n))
rows_order t c n = order_only took_any (all_took t c n) (took_order n (priorities_line t) (turns t.priorities (opening_in t c)))

-- ---- the side that set the margin

-- It is the larger that remains, with its amount: whole units
pub set_by : (long short : Whole) → SetBy (setter_of long short) long short (max long short)
set_by long short = go (eqb long short) refl (ltb short long) refl
  where
    go : (x : Bool) → eqb long short ≡ x → (y : Bool) → ltb short long ≡ y
        → SetBy (elim x [ true ↦ by_both | false ↦ elim y [ true ↦ by_long | false ↦ by_short ] ]) long short (max long short)
    go true e y k = let one = eqb-true long short e in (one, omega arith)
    go false e true k = let more = ltb-true short long k in (more, omega arith)
    go false e false k =
        let apart = eqb-false long short e in
        let less = ltb-false short long k in
        (omega arith, omega arith)

-- ---- the K line

-- An M, a K and a Z line is a line
trade_line_is : (v : Valued) → IsLines (trade_line v)
trade_line_is v = line_is (ascii "M" ∷ digits v.line ∷ v.security.currency ∷ signed_digits v.mark ∷ [])

class_line_is : (c : Currency) (b : Book) (r : ClassRow) → IsLines (class_line c b r)
unfolding class_line
class_line_is c b r =
    line_is
    (ascii "K" ∷ c ∷ digits r.class ∷ digits (position b.long r.class) ∷ digits (position b.short r.class)
    ∷ digits (margin_of b r) ∷ [])

currency_line_is : (c : Currency) (mark : SignedCents) (initial : Whole) → IsLines (currency_line c mark initial)
currency_line_is c mark initial =
    line_is (ascii "Z" ∷ c ∷ signed_digits mark ∷ digits initial ∷ digits (total initial mark) ∷ [])

-- A currency's are lines
currency_lines_are : (listing : Listing) (t : Tables) (vs : List Valued) (c : Currency) → IsLines (currency_lines listing t vs c)
unfolding currency_lines
currency_lines_are listing t vs c =
    let b = offset_all t.priorities (opening (nets_in t vs c)) in
    both_are (all_are (class_line c b) (class_line_is c b) (only (is_listed listing b) t.classes))
    (currency_line_is c (mark_in c vs) (sum (map (margin_of b) t.classes)))

-- The K line of a C row stands in the full report, for each currency of the sheet
pub class_line_there : (t : Tables) (c : Currency) → has_currency t.securities c ≡ true
    → Each (λ row. (fs : Fields) → line_of fs ≡ class_line c (remaining_in t c) row → HasLine fs (report_of full t)) t.classes
unfolding report_of currency_lines
class_line_there t c has = each_map there (each_among t.classes)
  where
    b : Book
    b = remaining_in t c

    there : (row : ClassRow) → Among row t.classes → (fs : Fields) → line_of fs ≡ class_line c b row → HasLine fs (report_of full t)
    there row among fs own =
        let vs = valued_in t in
        let here : HasLine fs (class_line c b row) = ([], ([], sym own ∙ sym (append-nil (line_of fs)))) in
        line_below fs (all_are trade_line trade_line_is vs)
        (line_among (currency_lines full t vs) (currency_lines_are full t vs) (currency_among t.securities c has) fs
        (line_above fs
        (subst⁻¹ (HasLine fs) (joined_only (class_line c b) (is_listed full b) t.classes)
        (line_among (class_line c b) (class_line_is c b) among fs here))
        (currency_line_is c (mark_in c vs) (sum (map (margin_of b) t.classes)))))
