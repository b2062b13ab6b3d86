-- How long a line, a report, an explanation and a sheet can be: of admitted tables the report and any explanation fit 32,768
-- bytes, and the sheet 65,536.
use Prim.Native.Nat.{ℕ, ◌+◌, ◌*◌, max, ◌≤◌, ◌<◌}
use native.Mathlib.Nat.{le_of_eq, le_trans, not-suc-le-zero, mul-le-mul_right, max-le}
use native.Mathlib.Omega.{arith}
use mathlib.Core.Bool.{true}
use mathlib.Core.List.{List, [], ◌∷◌, ◌++◌, map}
use mathlib.Core.Option.{Option, none, some}
use mathlib.Core.Path.{◌≡◌, refl, ◌∙◌}
use lib.IntN.{nat_abs}
use lib.ListN.{length, take, length-append, length-map}
use Rattle.paper.specs.Units.{Byte, Text, Fields, Date, Class, Currency, SignedCents, Whole}
use Rattle.paper.specs.Lists.{sum, only, joined_up, Each}
use Rattle.paper.specs.Text.{semicolon, LF, parted, line_of, same, digits, signed_digits, is_code, is_currency, ascii, blank_or}
use Rattle.paper.specs.Rows.{Kind, government, corporate, inflation, floating, Trade, repo, cash, Side, seller, purchaser, ClassRow, PriorityRow, SecurityRow, TradeRow, Tables, kind_letter, trade_letter, side_letter, write_date, write_class, write_priority, write_security, write_trade}
use Rattle.paper.specs.Currencies.{currencies}
use Rattle.paper.specs.Valuation.{Valued, valued_in}
use Rattle.paper.specs.Offsetting.{Book, position, Netted, netted_in, nets_in, total, opening_in, remaining_in}
use Rattle.paper.specs.Report.{Listing, is_listed, margin_of, mark_in, trade_line, class_line, currency_line, currency_lines, report_of}
use Rattle.paper.specs.Explanation.{Took, Setter, by_long, by_short, by_both, listed, took_any, setter_of, explanation_of, net_line, took_line, setter_letter, setter_line, explanation_text}
use Rattle.paper.specs.Tables.{sheet_of, Admitted}
use Rattle.paper.specs.Reasons.{TookSo}
use Rattle.paper.specs.Bounds.{PriorityFacts, most_mark_sum, most_initial, most_position, BookFacts}
use Rattle.paper.proofs.Lists.{each_map, each_only, each_made, length_only, joined_most, joined_append}
use Rattle.paper.proofs.Digits.{digits_length, signed_length, date_eight}
use Rattle.paper.proofs.Fields.{code_length, currency_length}
use Rattle.paper.proofs.Currencies.{few_currencies, each_currency}
use Rattle.paper.proofs.Rules.{DateFacts, ClassFacts, SecurityFacts, TradeFacts}
use Rattle.paper.proofs.Bounds.{ValuedFacts}
use Rattle.paper.proofs.Totals.{margined_facts, table_facts, net_most, SmallNet, nets_few, opening_in_most, remaining_most, margin_most, total_most, currency_facts}
use Rattle.paper.proofs.Explanation.{all_took, all_took_lem, rows_own}

-- Fields parted by a mark, with one more mark behind them, have the fields' bytes and one more for each
parted_length : (mark : Byte) (f : Text) (fs : Fields)
    → length (parted mark (f ∷ fs)) + 1 ≡ sum (map length (f ∷ fs)) + length (f ∷ fs)
parted_length mark f [] = omega arith
parted_length mark f (g ∷ gs) =
    omega (arith, length-append f (mark ∷ parted mark (g ∷ gs)), parted_length mark g gs)

-- A line has its fields' bytes, and one byte more for each field: the `;` or the LF behind it
pub line_length : (fs : Fields) → 0 < length fs → length (line_of fs) ≡ sum (map length fs) + length fs
line_length [] h = absurd (not-suc-le-zero h)
line_length (f ∷ fs) h = length-append (parted semicolon (f ∷ fs)) (LF ∷ []) ∙ parted_length semicolon f fs

-- ---- the report

-- An M line has at most 23 bytes
pub trade_line_most : (v : Valued) → ValuedFacts v → length (trade_line v) ≤ 23
trade_line_most v f =
    omega (
      arith,
      line_length (ascii "M" ∷ digits v.line ∷ v.security.currency ∷ signed_digits v.mark ∷ []) (omega arith),
      digits_length v.line 2 (omega (arith, f.line)),
      currency_length v.security.currency f.security.currency,
      signed_length v.mark 10 (omega (arith, f.mark)),
    )

-- A K line has at most 54 bytes
pub class_line_most : (c : Currency) (b : Book) (r : ClassRow) → is_currency c ≡ true → BookFacts b → ClassFacts r
    → length (class_line c b r) ≤ 54
unfolding class_line
class_line_most c b r e f g =
    let long = position b.long r.class in
    let short = position b.short r.class in
    omega (
      arith,
      line_length (ascii "K" ∷ c ∷ digits r.class ∷ digits long ∷ digits short ∷ digits (margin_of b r) ∷ [])
          (omega arith),
      currency_length c e,
      digits_length r.class 1 (omega (arith, g.high)),
      digits_length long 13 (omega (arith, f.long r.class)),
      digits_length short 13 (omega (arith, f.short r.class)),
      digits_length (margin_of b r) 13 (omega (arith, margin_most r b g f)),
    )

-- A Z line has at most 56 bytes
pub currency_line_most : (c : Currency) (mark : SignedCents) (initial : Whole)
    → is_currency c ≡ true → nat_abs mark ≤ most_mark_sum → initial ≤ most_initial
    → length (currency_line c mark initial) ≤ 56
currency_line_most c mark initial e m i =
    omega (
      arith,
      line_length (ascii "Z" ∷ c ∷ signed_digits mark ∷ digits initial ∷ digits (total initial mark) ∷ []) (omega arith),
      currency_length c e,
      signed_length mark 13 (omega arith),
      digits_length initial 14 (omega arith),
      digits_length (total initial mark) 16 (omega (arith, total_most initial mark i m)),
    )

-- The lines of a currency have at most 2,216 bytes
pub currency_lines_most : (listing : Listing) (t : Tables) → Admitted t → (c : Currency) → is_currency c ≡ true
    → length (currency_lines listing t (valued_in t) c) ≤ 2_216
unfolding currency_lines
currency_lines_most listing t a c e =
    let f = table_facts t a in
    let g = currency_facts t a c in
    let b = remaining_in t c in
    let mark = mark_in c (valued_in t) in
    let initial = sum (map (margin_of b) t.classes) in
    let own = only (is_listed listing b) t.classes in
    omega (
      arith,
      length-append (joined_up (map (class_line c b) own)) (currency_line c mark initial),
      joined_most (class_line c b) 54 own
          (each_map (λ r h. class_line_most c b r e g.book h) (each_only (is_listed listing b) t.classes f.classes)),
      length_only (is_listed listing b) t.classes,
      f.few_classes,
      currency_line_most c mark initial e g.mark g.initial,
    )

-- The report of admitted tables fits its room of 32,768 bytes
pub report_fits : (listing : Listing) (t : Tables) → Admitted t → length (report_of listing t) ≤ 32_768
unfolding report_of
report_fits listing t a =
    let f = table_facts t a in
    let v = margined_facts t a in
    let cs = currencies t.securities in
    let each = each_currency (λ c. is_currency c ≡ true) t.securities (each_map (λ s g. g.currency) f.securities) in
    let lines = currency_lines listing t (valued_in t) in
    omega (
      arith,
      length-append (joined_up (map trade_line (valued_in t))) (joined_up (map lines cs)),
      joined_most trade_line 23 (valued_in t) (each_map trade_line_most v.each),
      v.few,
      joined_most lines 2_216 cs (each_map (λ c e. currency_lines_most listing t a c e) each),
      few_currencies t.classes t.securities a.3,
    )

-- ---- the explanation

-- A P line has at most 29 bytes
net_line_most : (s : Netted) → is_code s.code ≡ true → SmallNet s → length (net_line s) ≤ 29
net_line_most s code small =
    omega (
      arith,
      line_length (ascii "P" ∷ s.code ∷ signed_digits s.net ∷ []) (omega arith),
      code_length s.code code,
      signed_length s.net 11 (omega arith),
    )

-- An R line has at most 36 bytes
took_line_most : (t : Tables) → Admitted t → (c : Currency) (n : Class) (r : Took) → TookSo t c n r → length (took_line r) ≤ 36
took_line_most t a c n r own =
    let f = table_facts t a in
    let met = remaining_most (take own.place t.priorities) (opening_in t c) (opening_in_most t a c) in
    omega (
      arith,
      line_length (ascii "R" ∷ digits r.line ∷ digits r.long ∷ digits r.short ∷ []) (omega arith),
      digits_length r.line 2 (omega (arith, own.line, own.there, f.few_classes, f.few_priorities)),
      digits_length r.long 13 (omega (arith, own.takes.long, met.long n)),
      digits_length r.short 13 (omega (arith, own.takes.short, met.short n)),
    )

-- The side that set the margin is written as one letter
setter_letter_lem : (side : Setter) → length (setter_letter side) ≡ 1
setter_letter_lem by_long = refl
setter_letter_lem by_short = refl
setter_letter_lem by_both = refl

-- The B line has at most 19 bytes
setter_line_most : (side : Setter) (amount : Whole) → amount ≤ most_position → length (setter_line side amount) ≤ 19
setter_line_most side amount most =
    omega (
      arith,
      line_length (ascii "B" ∷ setter_letter side ∷ digits amount ∷ []) (omega arith),
      setter_letter_lem side,
      digits_length amount 13 (omega arith),
    )

-- The explanation of any class of admitted tables fits its room of 32,768 bytes
pub explanation_fits : (t : Tables) → Admitted t → (c : Currency) (n : Class)
    → length (explanation_text (explanation_of t c n)) ≤ 32_768
unfolding explanation_of explanation_text
explanation_fits t a c n =
    let f = table_facts t a in
    let v = margined_facts t a in
    let own = only (λ s. same s.currency c) t.securities in
    let net = netted_in t.classes (valued_in t) in
    let nets = only (listed n) (nets_in t (valued_in t) c) in
    let rows = only took_any (all_took t c n) in
    let book = (currency_facts t a c).book in
    let long = position (remaining_in t c).long n in
    let short = position (remaining_in t c).short n in
    let last = setter_line (setter_of long short) (max long short) in
    let small : Each (λ s. length (net_line s) ≤ 29) nets =
    each_only (listed n) (nets_in t (valued_in t) c)
    (each_made net own
    (each_only (λ s. same s.currency c) t.securities
    (each_map (λ s g. net_line_most (net s) g.code (net_most s.code (valued_in t) v)) f.securities)))
    in
    omega (
      arith,
      length-append (joined_up (map net_line nets)) (joined_up (map took_line rows) ++ last),
      length-append (joined_up (map took_line rows)) last,
      joined_most net_line 29 nets small,
      length_only (listed n) (nets_in t (valued_in t) c),
      nets_few t a c,
      joined_most took_line 36 rows (each_map (took_line_most t a c n) (rows_own t c n)),
      length_only took_any (all_took t c n),
      all_took_lem t c n,
      f.few_priorities,
      setter_line_most (setter_of long short) (max long short) (max-le (book.long n) (book.short n)),
    )

-- ---- the sheet

-- A kind, a trade and a side are written as one letter
kind_letter_lem : (kind : Kind) → length (kind_letter kind) ≡ 1
kind_letter_lem government = refl
kind_letter_lem corporate = refl
kind_letter_lem inflation = refl
kind_letter_lem floating = refl

trade_letter_lem : (trade : Trade) → length (trade_letter trade) ≡ 1
trade_letter_lem repo = refl
trade_letter_lem cash = refl

side_letter_lem : (side : Side) → length (side_letter side) ≡ 1
side_letter_lem seller = refl
side_letter_lem purchaser = refl

-- A field that may be blank has at most so many bytes, if it has so where it is not blank
blank_most : {A : Type 0} (write : A → Text) (most : ℕ) (o : Option A)
    → ((a : A) → o ≡ some a → length (write a) ≤ most) → length (blank_or write o) ≤ most
blank_most write most none h = omega arith
blank_most write most (some a) h = h a refl

-- The D row has 11 bytes
date_row_length : (d : Date) → DateFacts d → length (line_of (write_date d)) ≡ 11
date_row_length d f = omega (arith, line_length (write_date d) (omega arith), date_eight d f.real)

-- A C row has at most 21 bytes
class_row_most : (c : ClassRow) → ClassFacts c → length (line_of (write_class c)) ≤ 21
class_row_most c f =
    omega (
      arith,
      line_length (write_class c) (omega arith),
      digits_length c.class 1 (omega (arith, f.high)),
      kind_letter_lem c.kind,
      blank_most digits 7 c.border (λ d e. digits_length d 6 (omega (arith, (f.border d e).1))),
      digits_length c.deposit 4 (omega (arith, f.deposit)),
    )

-- An O row has at most 14 bytes
priority_row_most : (o : PriorityRow) → PriorityFacts o → length (line_of (write_priority o)) ≤ 14
priority_row_most o f =
    omega (
      arith,
      line_length (write_priority o) (omega arith),
      digits_length o.first 1 (omega (arith, f.first_high)),
      digits_length o.second 1 (omega (arith, f.second_high)),
      digits_length o.factor 4 (omega (arith, f.factor)),
    )

-- An S row has at most 66 bytes
security_row_most : (s : SecurityRow) → SecurityFacts s → length (line_of (write_security s)) ≤ 66
security_row_most s f =
    omega (
      arith,
      line_length (write_security s) (omega arith),
      code_length s.code f.code,
      currency_length s.currency f.currency,
      kind_letter_lem s.kind,
      blank_most digits 7 s.duration (λ d e. digits_length d 6 (omega (arith, (f.duration d e).1))),
      digits_length s.price 7 (omega (arith, f.price_high)),
      digits_length s.coupon 6 (omega (arith, f.coupon)),
      digits_length s.payments 0 (omega (arith, f.payments_high)),
      date_eight s.previous f.previous,
      date_eight s.next f.next,
    )

-- A T row has at most 67 bytes
trade_row_most : (t : TradeRow) → TradeFacts t → length (line_of (write_trade t)) ≤ 67
trade_row_most t f =
    omega (
      arith,
      line_length (write_trade t) (omega arith),
      trade_letter_lem t.trade,
      side_letter_lem t.side,
      code_length t.code f.code,
      digits_length t.nominal 8 (omega (arith, f.nominal_high)),
      digits_length t.amount 10 (omega (arith, f.amount_high)),
      date_eight t.first f.first,
      blank_most digits 8 t.last (λ d e. le_of_eq (date_eight d (f.last d e))),
      blank_most signed_digits 7 t.rate (λ r e. signed_length r 5 (omega (arith, f.rate r e))),
    )

-- The rows of a table of at most so many rows, each of at most so many bytes
rows_most : {R : Type 0} {P : R → Type 0} (write : R → Fields) (most count : ℕ)
    → ((r : R) → P r → length (line_of (write r)) ≤ most)
    → (rs : List R) → length rs ≤ count → Each P rs → length (joined_up (map line_of (map write rs))) ≤ count * most
rows_most write most count small rs few each =
    le_trans (joined_most line_of most (map write rs) (each_made write rs (each_map small each)))
    (mul-le-mul_right {n = count} most (rw (length-map rs write) few))

-- The writing of admitted tables fits a sheet of 65,536 bytes
pub sheet_fits : (t : Tables) → Admitted t → length (sheet_of t) ≤ 65_536
unfolding sheet_of
sheet_fits t a =
    let f = table_facts t a in
    let cs = map write_class t.classes in
    let os = map write_priority t.priorities in
    let ss = map write_security t.securities in
    let ts = map write_trade t.trades in
    omega (
      arith,
      length-append (line_of (write_date t.date)) (joined_up (map line_of (cs ++ (os ++ (ss ++ ts))))),
      date_row_length t.date f.date,
      joined_append line_of cs (os ++ (ss ++ ts)),
      joined_append line_of os (ss ++ ts),
      joined_append line_of ss ts,
      rows_most write_class 21 40 class_row_most t.classes f.few_classes f.classes,
      rows_most write_priority 14 200 priority_row_most t.priorities f.few_priorities f.priorities,
      rows_most write_security 66 200 security_row_most t.securities f.few_securities f.securities,
      rows_most write_trade 67 500 (λ r h. trade_row_most r h.facts) t.trades f.few_trades f.trades,
    )
