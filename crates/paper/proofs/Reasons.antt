-- The fourth promise, proved of the explainer's value. No axiom.
use Prim.Native.Nat.{◌-◌, ◌≤◌, max}
use native.Mathlib.Omega.{arith}
use mathlib.Core.Bool.{Bool, true, false}
use mathlib.Core.List.{[], ◌∷◌}
use mathlib.Core.Path.{◌≡◌, refl, sym, ap, ◌∙◌, subst⁻¹}
use lib.ListN.{length}
use Rattle.paper.specs.Units.{Text, Room, Number, Line, Class, Currency}
use Rattle.paper.specs.Text.{line_of}
use Rattle.paper.specs.Signs.{above_zero, below_zero}
use Rattle.paper.specs.Currencies.{has_currency}
use Rattle.paper.specs.Rows.{ClassRow, Tables}
use Rattle.paper.specs.Valuation.{valued_in}
use Rattle.paper.specs.Refusals.{Outcome, refused, accepted, judged, ◌>>=◌, has_class}
use Rattle.paper.specs.Offsetting.{nets_in, position, opening_in, remaining_in}
use Rattle.paper.specs.Report.{full, class_line, report_of}
use Rattle.paper.specs.Explanation.{Explanation, priorities_line, explanation_of, explanation_text}
use Rattle.paper.specs.Answer.{Answer, tables_of, has_both, ask_rules, explained, number_of, buffer_after, handed_back, kit, explainer}
use Rattle.paper.specs.Tables.{sheet_of, Admitted}
use Rattle.paper.specs.Demands.{IsAnswer}
use Rattle.paper.specs.Reasons.{off_long, off_short, explained_line, Reason, Promise4}
use Rattle.paper.proofs.Lists.{both, each_map}
use Rattle.paper.proofs.Sizes.{above_within, below_within}
use Rattle.paper.proofs.Rules.{class_range}
use Rattle.paper.proofs.Totals.{table_facts}
use Rattle.paper.proofs.Listed.{summed_listed, listed_own, listed_all, listed_order}
use Rattle.paper.proofs.Explanation.{long_side, short_side, rows_off, rows_own, rows_all, rows_order, set_by, class_line_there}
use Rattle.paper.proofs.Lengths.{explanation_fits}
use Rattle.paper.proofs.Demands.{gives, goes_on, tables_read, demand_2}

-- What an explanation says of a class's K line is the line, where it is right about what remains
explained_line_lem : (t : Tables) (c : Currency) (n : Class) (e : Explanation) (row : ClassRow) → row.class ≡ n
    → position (opening_in t c).long n - off_long e ≡ position (remaining_in t c).long n
    → position (opening_in t c).short n - off_short e ≡ position (remaining_in t c).short n
    → e.amount ≡ max (position (remaining_in t c).long n) (position (remaining_in t c).short n)
    → line_of (explained_line t c n e row) ≡ class_line c (remaining_in t c) row
unfolding class_line
explained_line_lem t c n e row own long short amount = rw (own, long, short, amount)

-- An explanation is the true reason of a class's margin in a currency, where the sheet has both
pub reason : (t : Tables) → Admitted t → (c : Currency) (n : Class) → has_both t c n ≡ true → Reason t c n (report_of full t) (explanation_of t c n)
unfolding explanation_of
reason t a c n has =
    let (currency, class) = both (has_currency t.securities c) (has_class t.classes n) has in
    let (low, high) = class_range t.classes n (table_facts t a).classes class in
    let nets = nets_in t (valued_in t) c in
    let e = explanation_of t c n in
    let left_long = rows_off (long_side n) (priorities_line t) t.priorities (opening_in t c) in
    let left_short = rows_off (short_side n) (priorities_line t) t.priorities (opening_in t c) in
    record {
      nets_long = sym (summed_listed above_zero above_within n high nets);
      nets_short = sym (summed_listed below_zero below_within n high nets);
      nets_own = listed_own t a c n low;
      nets_all = listed_all t c n;
      nets_order = listed_order t a c n;
      left_long = left_long;
      left_short = left_short;
      rows_own = rows_own t c n;
      rows_all = rows_all t c n;
      rows_order = rows_order t c n;
      setter = set_by (position (remaining_in t c).long n) (position (remaining_in t c).short n);
      line =
          each_map
          (λ row there own. there (explained_line t c n e row) (explained_line_lem t c n e row own (omega arith) (omega arith) refl))
          (class_line_there t c currency);
    }

-- ---- what the explainer gives

-- The explainer gives the answer of 02 c, whatever the question, the sheet and the buffer: its number, and the buffer as it then is
pub explainer_answer : (currency : Text) (class : Class) (sheet buffer : Text) (a : Answer)
    → explained (length buffer) sheet currency class ≡ a
    → explainer currency class sheet buffer ≡ (number_of a, buffer_after a buffer)
unfolding explainer
explainer_answer currency class sheet buffer a e = ap (λ (a : Answer). handed_back a buffer) e

-- What the answer goes on with from the tables: the explanation, where the sheet has both, and else the refusal 13
abbrev answer_for : Text → Class → Tables → Answer
answer_for currency class t = judged 0 (explanation_text (explanation_of t currency class)) (ask_rules t currency class)

-- It is an answer for admitted tables
asked_fits : (currency : Text) (class : Class) (t : Tables) → Admitted t → IsAnswer 13 (answer_for currency class t)
asked_fits currency class t a = go (has_both t currency class)
  where
    go : (b : Bool) → IsAnswer 13 (judged 0 (explanation_text (explanation_of t currency class)) ((13, b) ∷ []))
    go true = explanation_fits t a currency class
    go false = (omega arith, omega arith, omega arith)

-- So is what the explainer answers, whatever the sheet
pub is_explained : (room : Room) (sheet currency : Text) (class : Class) → IsAnswer 13 (explained room sheet currency class)
is_explained room sheet currency class = goes_on 13 (omega arith) room sheet (answer_for currency class) (asked_fits currency class)

-- A sheet that is refused a report is refused an explanation, by the same number and line
refused_alike : (room : Room) (sheet currency : Text) (class : Class) (number : Number) (line : Line)
    → tables_of room sheet ≡ refused number line → explained room sheet currency class ≡ refused number line
refused_alike room sheet currency class number line e = ap (λ (o : Outcome Tables). o >>= answer_for currency class) e

-- Of admitted tables, written as a sheet, the answer is what the question gives of them
explained_admitted : (room : Room) (t : Tables) (currency : Text) (class : Class) → 32_768 ≤ room → Admitted t
    → explained room (sheet_of t) currency class ≡ answer_for currency class t
explained_admitted room t currency class h a = ap (λ (o : Outcome Tables). o >>= answer_for currency class) (tables_read room t h a)

-- The fourth promise. Every call is answered, with a refusal 1..13 or a text that fits. A sheet that is refused a report is
-- refused an explanation by the same number and line. Of a sheet that has a report a currency or class that it lacks is refused
-- 13, line 0; any other is explained, and the explanation is the true reason of that report's line.
pub promise_4 : Promise4 (kit full) explainer
promise_4 = (
  λ sheet currency buffer class s c b.
      let a = explained (length buffer) sheet currency class in
      let given = gives (explainer currency class) sheet buffer a (explainer_answer currency class sheet buffer a refl) in
      (a, is_explained (length buffer) sheet currency class, given),
  λ sheet currency buffer class s c b number line e.
      explainer_answer currency class sheet buffer (refused number line)
      (refused_alike (length buffer) sheet currency class number line e),
  λ sheet currency buffer class s c b room report fits given.
      let (t, a, written, figures) = (demand_2 full sheet buffer s b room report fits).0 given in
      let text = explanation_text (explanation_of t currency class) in
      let answered =
      ap (λ (s : Text). explained (length buffer) s currency class) written ∙ explained_admitted (length buffer) t currency class room a in (
        t,
        a,
        written,
        λ lacks. explainer_answer currency class sheet buffer (refused 13 0) (answered ∙ rw (lacks, judged)),
        λ has. (
          explainer_answer currency class sheet buffer (accepted text) (answered ∙ rw (has, judged)),
          subst⁻¹ (λ (r : Text). Reason t currency class r (explanation_of t currency class)) figures (reason t a currency class has),
        ),
      ),
)
