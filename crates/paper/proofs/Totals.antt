-- The bounds of whole tables: margined trades, nets, positions, margins and the figures of a currency, by the table of Bounds.
use Prim.Native.Nat.{ℕ, zero, suc, ◌+◌, ◌*◌, max, ◌≤◌, ◌<◌}
use native.Mathlib.Nat.{le_trans, mul-le-mul, mul-le-mul_right, max-le}
use native.Mathlib.Omega.{arith}
use mathlib.Core.Bool.{Bool, true, false}
use mathlib.Core.List.{List, [], ◌∷◌, map}
use mathlib.Core.Option.{Option, none, some}
use mathlib.Core.Path.{◌≡◌, refl}
use lib.Dec.{T}
use lib.IntN.{ℤ, pos, nat_abs, ◌-ℤ◌}
use lib.ListN.{length, length-map}
use Rattle.paper.specs.Units.{Line, Day, Class, Code, Currency, Factor, SignedCents, Whole, SignedWhole}
use Rattle.paper.specs.Lists.{sum, only, Each, nil, cons}
use Rattle.paper.specs.Signs.{above_zero, below_zero, signed_sum}
use Rattle.paper.specs.Days.{day}
use Rattle.paper.specs.Text.{same}
use Rattle.paper.specs.Rows.{ClassRow, PriorityRow, SecurityRow, TradeRow, Tables}
use Rattle.paper.specs.Valuation.{margined, accrual_day, security_of, Valued, valued, valued_from, valued_in, signed_worths_in, net_of}
use Rattle.paper.specs.Refusals.{rules_of, period_of, class_kind, priority_kind, security_kind, trade_kind}
use Rattle.paper.specs.Offsetting.{Book, position, Netted, netted_in, nets_in, flat, summed, opening, offset_all, margin, total, opening_in, remaining_in}
use Rattle.paper.specs.Report.{margin_of, mark_in}
use Rattle.paper.specs.Tables.{hold, Admitted}
use Rattle.paper.specs.Bounds.{PriorityFacts, BookFacts, most_worth, most_mark, most_trades, most_line, most_net_cents, most_net, most_position, most_share_product, most_margin, most_initial, most_mark_sum, most_total}
use Rattle.paper.proofs.Lists.{each_map, each_all, each_found, each_only, length_only, each_made, sum_most, set_most}
use Rattle.paper.proofs.Rounding.{share_below}
use Rattle.paper.proofs.Sizes.{size_difference, size_signed_sum, above_within, below_within, rounded_at_most}
use Rattle.paper.proofs.Rules.{DateFacts, ClassFacts, SecurityFacts, TradeFacts, date_facts, class_facts, priority_facts, security_facts, trade_facts, in_period_lem, each_holds, classes_at_most, priorities_at_most, securities_at_most, trades_at_most}
use Rattle.paper.proofs.Offsetting.{rows_lower}
use Rattle.paper.proofs.Bounds.{ValuedFacts, valued_facts}

-- ---- the margined trades

-- What the rules say of a T row in its table: its fields, and its accrual day in its security's coupon period
pub record TradeIn (today : Day) (ss : List SecurityRow) (t : TradeRow) : Type 0 where
  pub facts : TradeFacts t
  pub period : (s : SecurityRow) → security_of ss t.code ≡ some s → margined today t ≡ true
      → (day s.previous ≤ accrual_day today t) × (accrual_day today t < day s.next)

-- It holds where the row's rules do
pub trade_in_lem : (today : Day) (ss : List SecurityRow) (above : List TradeRow) (t : TradeRow)
    → T (hold (rules_of (trade_kind today (period_of ss)) above t)) → TradeIn today ss t
trade_in_lem today ss above t h =
    record { facts = trade_facts today (period_of ss) above t h; period = in_period_lem today ss above t h }

-- The margined trades of a table that begins at a line: each with its facts, and no more than there are trades
pub valued_from_lem : (today : Day) (ss : List SecurityRow) (at : Line) (ts : List TradeRow)
    → Each SecurityFacts ss → Each (TradeIn today ss) ts → at + length ts ≤ suc most_line
    → Each ValuedFacts (valued_from today ss at ts) × (length (valued_from today ss at ts) ≤ length ts)
unfolding valued_from
valued_from_lem today ss at [] fs nil l = (nil, omega arith)
valued_from_lem today ss at (t ∷ ts) fs (cons f gs) l =
    go (margined today t) refl (security_of ss t.code) refl (valued_from_lem today ss (suc at) ts fs gs (omega arith))
  where
    rest : List Valued
    rest = valued_from today ss (suc at) ts

    Bound : List Valued → ℕ → Type 0
    Bound vs n = Each ValuedFacts vs × (length vs ≤ n)

    go : (m : Bool) → margined today t ≡ m → (o : Option SecurityRow) → security_of ss t.code ≡ o
        → Bound rest (length ts)
        → Bound (elim m [ false ↦ rest | true ↦ elim o [ none ↦ rest | some s ↦ valued today at t s ∷ rest ] ])
        (suc (length ts))
    go false e o k r = (r.0, omega arith)
    go true e none k r = (r.0, omega arith)
    go true e (some s) k r =
        let security = each_found (λ s. same s.code t.code) ss fs s k in
        (cons (valued_facts today at t s f.facts security e (f.period s k e).1 (omega arith)) r.0, omega arith)

-- What the rules say of admitted tables
pub record TableFacts (t : Tables) : Type 0 where
  pub date : DateFacts t.date
  pub classes : Each ClassFacts t.classes
  pub priorities : Each PriorityFacts t.priorities
  pub securities : Each SecurityFacts t.securities
  pub trades : Each (TradeIn (day t.date) t.securities) t.trades
  pub few_classes : length t.classes ≤ 40
  pub few_priorities : length t.priorities ≤ 200
  pub few_securities : length t.securities ≤ 200
  pub few_trades : length t.trades ≤ 500

-- It holds where the tables are admitted
pub table_facts : (t : Tables) → Admitted t → TableFacts t
table_facts t a =
    let today = day t.date in
    record {
      date = date_facts t.date a.0;
      classes = each_holds class_kind ClassFacts class_facts [] t.classes a.1;
      priorities =
          each_holds (priority_kind t.classes) PriorityFacts (priority_facts t.classes) [] t.priorities a.2;
      securities =
          each_holds (security_kind t.classes) SecurityFacts (security_facts t.classes) [] t.securities a.3;
      trades =
          each_holds (trade_kind today (period_of t.securities)) (TradeIn today t.securities) (trade_in_lem today t.securities) []
          t.trades
          a.4;
      few_classes = classes_at_most t.classes a.1;
      few_priorities = priorities_at_most t.classes t.priorities a.2;
      few_securities = securities_at_most t.classes t.securities a.3;
      few_trades = trades_at_most today (period_of t.securities) t.trades a.4;
    }

-- What holds of the margined trades of a sheet: each has its facts, and they are at most 500
pub record MarginedFacts (vs : List Valued) : Type 0 where
  pub each : Each ValuedFacts vs
  pub few : length vs ≤ most_trades

-- It holds where the tables are admitted
pub margined_facts : (t : Tables) → Admitted t → MarginedFacts (valued_in t)
margined_facts t a =
    let f = table_facts t a in
    let at = 3 + length t.classes + length t.priorities + length t.securities in
    let v = valued_from_lem (day t.date) t.securities at t.trades f.securities f.trades (omega arith) in
    record { each = v.0; few = le_trans v.1 f.few_trades }

-- ---- nets

-- A figure of those margined trades that pass a test, each at most so large, summed: in size, of the figure's unit
picked_sum_most : (figure : Valued → ℤ) (test : Valued → Bool) (most : ℕ) (vs : List Valued)
    → length vs ≤ most_trades → Each (λ v. nat_abs (figure v) ≤ most) vs
    → nat_abs (signed_sum (map figure (only test vs))) ≤ most_trades * most
picked_sum_most figure test most vs few each =
    let picked = only test vs in
    le_trans (size_signed_sum most (map figure picked) (each_made figure picked (each_only test vs each)))
    (mul-le-mul_right most (rw (length-map picked figure) (le_trans (length_only test vs) few)))

-- The revaluated amounts × sign in one security, summed: in size, cents
pub net_cents_most : (c : Code) (vs : List Valued) → MarginedFacts vs
    → nat_abs (signed_sum (signed_worths_in c vs)) ≤ most_net_cents
net_cents_most c vs f =
    picked_sum_most (λ v. v.signed_worth) (λ v. same v.security.code c) most_worth vs f.few
    (each_map (λ v g. g.worth) f.each)

-- The net of a security: in size, whole units
pub net_most : (c : Code) (vs : List Valued) → MarginedFacts vs → nat_abs (net_of (signed_worths_in c vs)) ≤ most_net
net_most c vs f = rounded_at_most (signed_sum (signed_worths_in c vs)) most_net 100 (omega arith) (net_cents_most c vs f)

-- The mark-to-market sum of a currency: in size, cents
pub mark_sum_most : (c : Currency) (vs : List Valued) → MarginedFacts vs → nat_abs (mark_in c vs) ≤ most_mark_sum
mark_sum_most c vs f =
    picked_sum_most (λ v. v.mark) (λ v. same v.security.currency c) most_mark vs f.few
    (each_map (λ v g. g.mark) f.each)

-- ---- positions

-- A net that is as small as a security's: in size, whole units
abbrev pub SmallNet : Netted → Type 0
SmallNet n = nat_abs n.net ≤ most_net

-- The nets of securities are as small as that
pub nets_most : (cs : List ClassRow) (vs : List Valued) → MarginedFacts vs → (ss : List SecurityRow)
    → Each SmallNet (map (netted_in cs vs) ss)
nets_most cs vs f ss = each_made (netted_in cs vs) ss (each_all (λ s. net_most s.code vs f) ss)

-- Where there is no position, each class has 0
pub flat_zero : (n : Class) (c : Class) → position (flat n) c ≡ 0
flat_zero zero zero = refl
flat_zero zero (suc c) = refl
flat_zero (suc n) zero = refl
flat_zero (suc n) (suc c) = flat_zero n c

-- One side of such nets, summed by class, is at most the largest net times how many they are: whole units
pub summed_most : (side : SignedWhole → Whole) → ((z : SignedWhole) → side z ≤ nat_abs z)
    → (ns : List Netted) → Each SmallNet ns → (c : Class) → position (summed side ns) c ≤ length ns * most_net
unfolding summed
summed_most side within [] nil c = rw (flat_zero 40 c) (omega arith)
summed_most side within (n ∷ ns) (cons small rest) c =
    let ps = summed side ns in
    let there = summed_most side within ns rest c in
    let own = summed_most side within ns rest n.class in
    set_most (suc (length ns) * most_net) ps n.class (position ps n.class + side n.net) c
    (omega arith)
    (omega (arith, within n.net))

-- The opening positions of at most 200 such nets are within the table
pub opening_most : (ns : List Netted) → length ns ≤ 200 → Each SmallNet ns → BookFacts (opening ns)
opening_most ns few each =
    record {
      long = λ n. le_trans (summed_most above_zero above_within ns each n) (mul-le-mul_right most_net few);
      short = λ n. le_trans (summed_most below_zero below_within ns each n) (mul-le-mul_right most_net few);
    }

-- ... and so is what any rows of the priority list leave
pub remaining_most : (os : List PriorityRow) (b : Book) → BookFacts b → BookFacts (offset_all os b)
remaining_most os b f =
    record {
      long = λ n. le_trans (rows_lower os b n).0 (f.long n);
      short = λ n. le_trans (rows_lower os b n).1 (f.short n);
    }

-- ---- margins

-- A factor × a position, or × the larger or smaller of two: whole units × 10,000
pub share_product_most : (factor : Factor) (amount : Whole) → factor ≤ 10_000 → amount ≤ most_position
    → factor * amount ≤ most_share_product
share_product_most factor amount f a = mul-le-mul f a

-- The margin of a deposit factor on the positions of a class, whole units
pub margin_on_most : (deposit : Factor) (n : Class) (b : Book) → deposit ≤ 10_000 → BookFacts b
    → margin deposit (position b.long n) (position b.short n) ≤ most_margin
margin_on_most deposit n b d g =
    le_trans (share_below deposit (max (position b.long n) (position b.short n)) d) (max-le (g.long n) (g.short n))

-- The margin of a class, whole units
pub margin_most : (c : ClassRow) (b : Book) → ClassFacts c → BookFacts b → margin_of b c ≤ most_margin
margin_most c b f g = margin_on_most c.deposit c.class b f.deposit g

-- The margins of at most 40 rows, summed: whole units
pub margins_most : {R : Type 0} (margin_for : R → Whole) (rs : List R) → length rs ≤ 40 → Each (λ r. margin_for r ≤ most_margin) rs
    → sum (map margin_for rs) ≤ most_initial
margins_most margin_for rs few each =
    le_trans (sum_most most_margin (map margin_for rs) (each_made margin_for rs each))
    (mul-le-mul_right {n = 40} most_margin (rw (length-map rs margin_for) few))

-- The initial margin of a currency, whole units
pub initial_most : (cs : List ClassRow) (b : Book) → length cs ≤ 40 → Each ClassFacts cs → BookFacts b
    → sum (map (margin_of b) cs) ≤ most_initial
initial_most cs b few each g = margins_most (margin_of b) cs few (each_map (λ c f. margin_most c b f g) each)

-- The total of a currency, cents
pub total_most : (initial : Whole) (mark : SignedCents) → initial ≤ most_initial → nat_abs mark ≤ most_mark_sum
    → total initial mark ≤ most_total
total_most initial mark i m =
    omega (arith, above_within (pos (100 * initial) -ℤ mark), size_difference (pos (100 * initial)) mark)

-- ---- one currency of admitted tables

-- A currency has at most 200 nets
pub nets_few : (t : Tables) → Admitted t → (c : Currency) → length (nets_in t (valued_in t) c) ≤ 200
nets_few t a c =
    let own = only (λ s. same s.currency c) t.securities in
    omega (
      arith,
      length-map own (netted_in t.classes (valued_in t)),
      length_only (λ s. same s.currency c) t.securities,
      (table_facts t a).few_securities,
    )

-- The opening positions of a currency, whole units; `remaining-most` has what is left of them after any rows
pub opening_in_most : (t : Tables) → Admitted t → (c : Currency) → BookFacts (opening_in t c)
opening_in_most t a c =
    opening_most (nets_in t (valued_in t) c) (nets_few t a c)
    (nets_most t.classes (valued_in t) (margined_facts t a) (only (λ s. same s.currency c) t.securities))

-- How large the figures of a currency are: its remaining positions, class margins and initial margin in whole units,
-- its mark-to-market sum and total in cents
pub record CurrencyFacts (t : Tables) (c : Currency) : Type 0 where
  pub book : BookFacts (remaining_in t c)
  pub margins : Each (λ r. margin_of (remaining_in t c) r ≤ most_margin) t.classes
  pub initial : sum (map (margin_of (remaining_in t c)) t.classes) ≤ most_initial
  pub mark : nat_abs (mark_in c (valued_in t)) ≤ most_mark_sum
  pub total : total (sum (map (margin_of (remaining_in t c)) t.classes)) (mark_in c (valued_in t)) ≤ most_total

-- So large at most, where the tables are admitted
pub currency_facts : (t : Tables) → Admitted t → (c : Currency) → CurrencyFacts t c
currency_facts t a c =
    let f = table_facts t a in
    let book = remaining_most t.priorities (opening_in t c) (opening_in_most t a c) in
    let initial = initial_most t.classes (remaining_in t c) f.few_classes f.classes book in
    let mark = mark_sum_most c (valued_in t) (margined_facts t a) in
    record {
      book = book;
      margins = each_map (λ r g. margin_most r (remaining_in t c) g book) f.classes;
      initial = initial;
      mark = mark;
      total = total_most (sum (map (margin_of (remaining_in t c)) t.classes)) (mark_in c (valued_in t)) initial mark;
    }
