-- The law of two views: a sheet is accepted exactly when it is the writing of admitted tables, and it then reads back to them.
use Prim.Native.Nat.{suc, ◌+◌}
use native.Mathlib.Omega.{arith}
use mathlib.Core.Bool.{true}
use mathlib.Core.List.{List, [], ◌∷◌, ◌++◌, map, tail, append-nil, cons≢nil}
use mathlib.Core.Path.{◌≡◌, refl, sym, ap, ap₂, ◌∙◌, subst}
use lib.Dec.{T, eqb, eqb→eq}
use lib.Seq.{drop-drop}
use lib.ListN.{length, get_or, take, drop, take-append-drop}
use Rattle.paper.specs.Units.{Text, Fields, Date}
use Rattle.paper.specs.Days.{day}
use Rattle.paper.specs.Lists.{every, joined_up}
use Rattle.paper.specs.Text.{ascii, lines, line_of}
use Rattle.paper.specs.Rows.{Tables, write_date, write_class, write_priority, write_security, write_trade}
use Rattle.paper.specs.Refusals.{accepted, RowKind, rules_of, period_of, date_kind, class_kind, priority_kind, security_kind, trade_kind}
use Rattle.paper.specs.Sheet.{Rest, header_rules, header, row, section, date_row, end_rules, read_sheet}
use Rattle.paper.specs.Tables.{rows_of, sheet_of, hold, hold_down, Admitted}
use Rattle.paper.proofs.Lists.{tests, left, together, both, every_step, every_append, every_weaker, each_every}
use Rattle.paper.proofs.Order.{same_true}
use Rattle.paper.proofs.Lines.{plain, filled, proper, lines_written, written_lines}
use Rattle.paper.proofs.Outcomes.{accepted_one, both_accepted, judged_accepted}
use Rattle.paper.proofs.Sections.{Inverse, stops, stops_before, row_back, row_written, rows_back, section_written}
use Rattle.paper.proofs.Rows.{date_inverse, class_inverse, priority_inverse, security_inverse, trade_inverse}

-- ---- written tables are read back

-- Rows that the rules admit are written as lines with fields that hold no mark, over the row kind
rows_proper : {R : Type 0} (kind : RowKind R) → Inverse kind → ((r : R) → filled (kind.write r) ≡ true)
    → (above rs : List R) → T (hold_down kind above rs) → every proper (map kind.write rs) ≡ true
rows_proper kind inverse some above [] h = refl
rows_proper kind inverse some above (r ∷ rs) h =
    let here : T (hold (rules_of kind above r)) = search tests in
    let below : T (hold_down kind (r ∷ above) rs) = search tests in
    rw (every_step proper (kind.write r) (map kind.write rs), some r, each_every (every plain) (inverse.plain_fields above r here))
    (rows_proper kind inverse some (r ∷ above) rs below)

tables_proper : (t : Tables) → Admitted t → every proper (rows_of t) ≡ true
tables_proper t (d, c, o, s, r) =
    every_append proper (map write_date (t.date ∷ []))
    (map write_class t.classes ++ (map write_priority t.priorities ++ (map write_security t.securities ++ map write_trade t.trades)))
    (rows_proper date_kind date_inverse (λ d. refl) [] (t.date ∷ []) (together (hold (rules_of date_kind [] t.date)) true d tt))
    (every_append proper (map write_class t.classes) (map write_priority t.priorities ++ (map write_security t.securities ++ map write_trade t.trades))
    (rows_proper class_kind class_inverse (λ c. refl) [] t.classes c)
    (every_append proper (map write_priority t.priorities) (map write_security t.securities ++ map write_trade t.trades)
    (rows_proper (priority_kind t.classes) (priority_inverse t.classes) (λ o. refl) [] t.priorities o)
    (every_append proper (map write_security t.securities) (map write_trade t.trades)
    (rows_proper (security_kind t.classes) (security_inverse t.classes) (λ s. refl) [] t.securities s)
    (rows_proper (trade_kind (day t.date) (period_of t.securities)) (trade_inverse (day t.date) (period_of t.securities)) (λ r. refl) [] t.trades r))))

-- The rows of tables from each table on, down to no more lines
module _ (t : Tables) where
  abbrev from_trades : List Fields
  from_trades = map write_trade t.trades ++ []

  abbrev from_securities : List Fields
  from_securities = map write_security t.securities ++ from_trades

  abbrev from_priorities : List Fields
  from_priorities = map write_priority t.priorities ++ from_securities

  abbrev from_classes : List Fields
  from_classes = map write_class t.classes ++ from_priorities

  in_order : rows_of t ≡ write_date t.date ∷ from_classes
  in_order = rw (append-nil (map write_trade t.trades))

  -- None of those behind a table has its letter
  no_security_lem : stops (ascii "S") from_trades ≡ true
  no_security_lem = stops_before (ascii "S") write_trade (λ r. refl) t.trades [] refl

  no_priority_lem : stops (ascii "O") from_securities ≡ true
  no_priority_lem =
      stops_before (ascii "O") write_security (λ r. refl) t.securities from_trades
      (stops_before (ascii "O") write_trade (λ r. refl) t.trades [] refl)

  no_class_lem : stops (ascii "C") from_priorities ≡ true
  no_class_lem =
      stops_before (ascii "C") write_priority (λ r. refl) t.priorities from_securities
      (stops_before (ascii "C") write_security (λ r. refl) t.securities from_trades
      (stops_before (ascii "C") write_trade (λ r. refl) t.trades [] refl))

-- Admitted tables that are written as a sheet are read back
pub written_read : (t : Tables) → Admitted t → read_sheet (sheet_of t) ≡ accepted t
unfolding read_sheet sheet_of
written_read t (d, c, o, s, r) =
    let at = 3 + length t.classes in
    rw (
      lines_written (rows_of t) (tables_proper t (d, c, o, s, r)) ∙ in_order t,
      row_back date_kind date_inverse [] 2 t.date d,
      rows_back class_kind class_inverse [] t.classes 3 (from_priorities t) c (no_class_lem t),
      rows_back (priority_kind t.classes) (priority_inverse t.classes) [] t.priorities
          at (from_securities t) o (no_priority_lem t),
      rows_back (security_kind t.classes) (security_inverse t.classes) [] t.securities
          (at + length t.priorities) (from_trades t) s (no_security_lem t),
      rows_back (trade_kind (day t.date) (period_of t.securities)) (trade_inverse (day t.date) (period_of t.securities))
          [] t.trades (at + length t.priorities + length t.securities) [] r refl,
    )

-- ---- a sheet that is read was so written

-- Its header
pub header_written : (sheet : Text) (rest : Rest) → header sheet ≡ accepted rest
    → (rest ≡ (2, lines (drop 6 sheet))) × (sheet ≡ ascii "BRM;1\n" ++ drop 6 sheet)
header_written sheet rest e =
    let judged = judged_accepted 1 (2, lines (drop 6 sheet)) rest (header_rules sheet) e in
    let mark : ascii "BRM;" ≡ take 4 sheet = same_true (ascii "BRM;") (take 4 sheet) (search tests) in
    let version : ascii "1\n" ≡ take 2 (drop 4 sheet) = same_true (ascii "1\n") (take 2 (drop 4 sheet)) (search tests) in (
      sym judged.0,
      sym (take-append-drop 4 sheet)
          ∙ ap₂ (λ (a b : Text). a ++ b) (sym mark)
          (sym (take-append-drop 2 (drop 4 sheet)) ∙ ap₂ (λ (a b : Text). a ++ b) (sym version) (drop-drop 2 4 sheet)),
    )

-- Its D row
pub date_written : (rest : Rest) (date : Date) (more : Rest) → date_row rest ≡ accepted (date, more)
    → T (hold (rules_of date_kind [] date)) × (rest.1 ≡ write_date date ∷ more.1) × (more.0 ≡ suc rest.0)
date_written rest date more e =
    both_accepted (row date_kind [] rest.0 (get_or rest.1 0 [])) _ (date, more) e λ d k l.
    let one = accepted_one l in
    let dated : d ≡ date = ap (λ x. x.0) one in
    let written = row_written date_kind date_inverse [] rest.0 (get_or rest.1 0 []) d k in
    let first : write_date date ≡ get_or rest.1 0 [] = ap write_date (sym dated) ∙ written.0 in
    let behind : tail rest.1 ≡ more.1 = ap (λ x. x.1.1) one in
    (rw dated at written.1, there rest.1 first ∙ ap (λ (fss : List Fields). write_date date ∷ fss) behind, sym (ap (λ x. x.1.0) one))
  where
    there : (fss : List Fields) → write_date date ≡ get_or fss 0 [] → fss ≡ write_date date ∷ tail fss
    there [] first = absurd (cons≢nil first)
    there (fs ∷ fss) first = ap (λ (f : Fields). f ∷ fss) (sym first)

-- Lines that are the rows of admitted tables are the tables written
lines_tables : (text : Text) (t : Tables) → Admitted t → lines text ≡ rows_of t → text ≡ joined_up (map line_of (rows_of t))
lines_tables text t a e =
    let with_fields : every filled (rows_of t) ≡ true =
    every_weaker proper filled (λ fs p. (both (filled fs) (every (every plain) fs) p).0) (rows_of t) (tables_proper t a)
    in
    sym (written_lines text (ap (every filled) e ∙ with_fields)) ∙ ap (λ (fss : List Fields). joined_up (map line_of fss)) e

-- Its tables are admitted, and written they are the sheet
pub read_written : (sheet : Text) (t : Tables) → read_sheet sheet ≡ accepted t → Admitted t × (sheet ≡ sheet_of t)
unfolding read_sheet sheet_of
read_written sheet t e =
    both_accepted (header sheet) _ t e λ rest e1 k1.
    both_accepted (date_row rest) _ t k1 λ dated e2 k2.
    both_accepted (section class_kind dated.1) _ t k2 λ classed e3 k3.
    both_accepted (section (priority_kind classed.0) classed.1) _ t k3 λ ranked e4 k4.
    both_accepted (section (security_kind classed.0) ranked.1) _ t k4 λ secured e5 k5.
    both_accepted (section (trade_kind (day dated.0) (period_of secured.0)) secured.1) _ t k5 λ traded e6 k6.
    let h = header_written sheet rest e1 in
    let d = date_written rest dated.0 dated.1 e2 in
    let c = section_written class_kind class_inverse dated.1 classed.0 classed.1 e3 in
    let o = section_written (priority_kind classed.0) (priority_inverse classed.0)
    classed.1 ranked.0 ranked.1 e4
    in
    let s = section_written (security_kind classed.0) (security_inverse classed.0)
    ranked.1 secured.0 secured.1 e5
    in
    let r = section_written (trade_kind (day dated.0) (period_of secured.0))
    (trade_inverse (day dated.0) (period_of secured.0)) secured.1 traded.0 traded.1 e6
    in
    let u : Tables =
    record { date = dated.0; classes = classed.0; priorities = ranked.0; securities = secured.0; trades = traded.0 }
    in
    let last = judged_accepted traded.1.0 u t (end_rules traded.1) k6 in
    let none_left : traded.1.1 ≡ [] = empty traded.1.1 (left (eqb (length traded.1.1) 0) true last.1) in
    let admitted : Admitted u = (d.0, c.0, o.0, s.0, r.0) in
    let rows : lines (drop 6 sheet) ≡ write_date dated.0 ∷ from_classes u =
    sym (ap (λ x. x.1) h.0) ∙ d.1
    ∙ ap (λ (fss : List Fields). write_date dated.0 ∷ fss)
    (c.1 ∙ ap (λ (fss : List Fields). map write_class classed.0 ++ fss)
    (o.1 ∙ ap (λ (fss : List Fields). map write_priority ranked.0 ++ fss)
    (s.1 ∙ ap (λ (fss : List Fields). map write_security secured.0 ++ fss)
    (r.1 ∙ ap (λ (fss : List Fields). map write_trade traded.0 ++ fss) none_left))))
    in
    subst (λ (t : Tables). Admitted t × (sheet ≡ sheet_of t)) last.0
    (admitted, h.1 ∙ ap (λ (text : Text). ascii "BRM;1\n" ++ text) (lines_tables (drop 6 sheet) u admitted (rows ∙ sym (in_order u))))
  where
    empty : (fss : List Fields) → T (eqb (length fss) 0) → fss ≡ []
    empty [] h = refl
    empty (fs ∷ fss) h = absurd (let z = eqb→eq (suc (length fss)) 0 h in omega arith)
