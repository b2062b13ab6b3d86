-- The fifth promise, proved of the kit's two values: a quiet report is the full one without its K lines of zeros. No axiom.
use Prim.Native.Nat.{ℕ}
use mathlib.Core.Bool.{Bool, true, false, not, ◌&&◌}
use mathlib.Core.List.{List, [], ◌∷◌, ◌++◌, map, append-nil}
use mathlib.Core.Path.{◌≡◌, refl, sym, ap, ap₂, ◌∙◌, subst, subst⁻¹}
use borrow.Author.Tests.{eqb-true, eqb-false}
use lib.Dec.{eqb}
use lib.ListN.{length}
use Rattle.paper.specs.Units.{Text, Fields, Room, Currency, SignedCents, Whole}
use Rattle.paper.specs.Lists.{sum, every, only, joined_up, Each, nil, cons}
use Rattle.paper.specs.Text.{ascii, lines, line_of, same, is_currency, decimal, digits, signed_digits}
use Rattle.paper.specs.Rows.{ClassRow, Tables}
use Rattle.paper.specs.Valuation.{Valued, valued_in}
use Rattle.paper.specs.Offsetting.{Book, position, remaining_in, total}
use Rattle.paper.specs.Refusals.{Outcome, refused, accepted, ◌>>=◌}
use Rattle.paper.specs.Report.{full, quiet, all_zero, is_listed, margin_of, mark_in, trade_line, class_line, currency_line, currency_lines, report_of}
use Rattle.paper.specs.Answer.{tables_of, answer_by, kit}
use Rattle.paper.specs.Tables.{sheet_of, Admitted}
use Rattle.paper.specs.Quiet.{is_zero_line, quieted, quietly, Promise5}
use Rattle.paper.proofs.Lists.{never, only_kept, only_left, only_append, every_append, each_map, each_all, each_every, joined_only, joined_parts}
use Rattle.paper.proofs.Order.{same_true}
use Rattle.paper.proofs.Lines.{plain, proper, lines_written}
use Rattle.paper.proofs.Digits.{digits_decimal}
use Rattle.paper.proofs.Fields.{digits_plain, signed_plain, currency_plain}
use Rattle.paper.proofs.Currencies.{each_currency}
use Rattle.paper.proofs.Bounds.{ValuedFacts}
use Rattle.paper.proofs.Totals.{table_facts, margined_facts}
use Rattle.paper.proofs.Demands.{gives_answer, gives, tables_admitted, answer_given}

-- ---- lines that stay

-- Not a K line of zeros
abbrev stays : Fields → Bool
stays fs = not (is_zero_line fs)

-- What is left of a text of lines, each read as it was written, where only those stay that are no K lines of zeros
record Left (text left : Text) : Type 0 where
  all : List Fields
  read : every proper all ≡ true
  written : text ≡ joined_up (map line_of all)
  kept : left ≡ joined_up (map line_of (only stays all))

-- It is the text quieted
left_quieted : {text left : Text} → Left text left → left ≡ quieted text
left_quieted l =
    l.kept ∙ ap (λ (all : List Fields). joined_up (map line_of (only stays all))) (sym (ap lines l.written ∙ lines_written l.all l.read))

-- Of one line: itself, or nothing
left_line : (f : Text) (more : Fields) → let fs = f ∷ more in Each (λ f. every plain f ≡ true) fs
    → Left (line_of fs) (elim (stays fs) [ true ↦ line_of fs | false ↦ [] ])
left_line f more each =
    record {
      all = fs ∷ [];
      read = each_every proper (cons {a = fs} (each_every (every plain) each) nil);
      written = sym (append-nil (line_of fs));
      kept = go (stays fs) refl;
    }
  where
    fs : Fields
    fs = f ∷ more

    go : (b : Bool) → stays fs ≡ b → elim b [ true ↦ line_of fs | false ↦ [] ] ≡ joined_up (map line_of (only stays (fs ∷ [])))
    go true e = rw (only_kept stays fs [] e) (sym (append-nil (line_of fs)))
    go false e = rw (only_left stays fs [] e)

-- Of two texts, one behind the other
left_both : {a b c d : Text} → Left a b → Left c d → Left (a ++ c) (b ++ d)
left_both l m =
    record {
      all = l.all ++ m.all;
      read = every_append proper l.all m.all l.read m.read;
      written = ap₂ (λ (x y : Text). x ++ y) l.written m.written ∙ sym (joined_parts line_of l.all m.all);
      kept =
          ap₂ (λ (x y : Text). x ++ y) l.kept m.kept ∙ sym (joined_parts line_of (only stays l.all) (only stays m.all))
          ∙ ap (λ (all : List Fields). joined_up (map line_of all)) (sym (only_append stays l.all m.all));
    }

-- Of pieces
left_all : {R : Type 0} (piece left : R → Text) {rs : List R} → Each (λ r. Left (piece r) (left r)) rs
    → Left (joined_up (map piece rs)) (joined_up (map left rs))
left_all piece left nil = record { all = []; read = refl; written = refl; kept = refl }
left_all piece left (cons l rest) = left_both l (left_all piece left rest)

-- ---- the lines of a report

-- 0 is written `0`, and no other number is
zero_written : (n : ℕ) → same (ascii "0") (digits n) ≡ eqb n 0
unfolding digits
zero_written n = go (same (ascii "0") (digits n)) (eqb n 0) refl refl
  where
    written : n ≡ 0 → same (ascii "0") (digits n) ≡ true
    written e = rw e refl

    go : (x y : Bool) → same (ascii "0") (digits n) ≡ x → eqb n 0 ≡ y → x ≡ y
    go true true e k = refl
    go false false e k = refl
    go true false e k = absurd (eqb-false n 0 k (sym (digits_decimal n) ∙ ap (decimal 0) (sym (same_true (ascii "0") (digits n) e))))
    go false true e k = never (sym e ∙ written (eqb-true n 0 k))

-- An M line stays
trade_left : (v : Valued) → ValuedFacts v → Left (trade_line v) (trade_line v)
trade_left v f =
    left_line (ascii "M") (digits v.line ∷ v.security.currency ∷ signed_digits v.mark ∷ [])
    (cons refl (cons (digits_plain v.line) (cons (currency_plain v.security.currency f.security.currency) (cons (signed_plain v.mark) nil))))

-- A Z line stays
total_left : (c : Currency) → is_currency c ≡ true → (mark : SignedCents) (initial : Whole) → Left (currency_line c mark initial) (currency_line c mark initial)
total_left c e mark initial =
    left_line (ascii "Z") (c ∷ signed_digits mark ∷ digits initial ∷ digits (total initial mark) ∷ [])
    (cons refl (cons (currency_plain c e) (cons (signed_plain mark) (cons (digits_plain initial) (cons (digits_plain (total initial mark)) nil)))))

-- A K line stays where a quiet report lists its class
class_left : (c : Currency) → is_currency c ≡ true → (b : Book) (r : ClassRow)
    → Left (class_line c b r) (elim (is_listed quiet b r) [ true ↦ class_line c b r | false ↦ [] ])
unfolding class_line
class_left c e b r =
    let long = position b.long r.class in
    let short = position b.short r.class in
    let others : Fields = c ∷ digits r.class ∷ digits long ∷ digits short ∷ digits (margin_of b r) ∷ [] in
    let line = line_of (ascii "K" ∷ others) in
    let zeros : is_zero_line (ascii "K" ∷ others) ≡ all_zero b r =
    ap₂ ◌&&◌ (ap₂ ◌&&◌ (zero_written long) (zero_written short)) (zero_written (margin_of b r))
    in
    subst (λ (z : Bool). Left line (elim (not z) [ true ↦ line | false ↦ [] ])) zeros
    (left_line (ascii "K") others
    (cons refl (cons (currency_plain c e) (cons (digits_plain r.class) (cons (digits_plain long) (cons (digits_plain short) (cons (digits_plain (margin_of b r)) nil)))))))

-- So the lines of a currency in a quiet report are what is left of those in a full one
currency_left : (t : Tables) (c : Currency) → is_currency c ≡ true
    → Left (currency_lines full t (valued_in t) c) (currency_lines quiet t (valued_in t) c)
unfolding currency_lines
currency_left t c e =
    let b = remaining_in t c in
    let line = class_line c b in
    let vs = valued_in t in
    left_both
    (subst⁻¹ (λ (all : Text). Left all (joined_up (map line (only (is_listed quiet b) t.classes)))) (joined_only line (is_listed full b) t.classes)
    (subst⁻¹ (Left (joined_up (map line t.classes))) (joined_only line (is_listed quiet b) t.classes)
    (left_all line (λ r. elim (is_listed quiet b r) [ true ↦ line r | false ↦ [] ]) (each_all (class_left c e b) t.classes))))
    (total_left c e (mark_in c vs) (sum (map (margin_of b) t.classes)))

-- ... and a quiet report of a full one
report_left : (t : Tables) → Admitted t → Left (report_of full t) (report_of quiet t)
unfolding report_of
report_left t a =
    let vs = valued_in t in
    left_both (left_all trade_line trade_line (each_map trade_left (margined_facts t a).each))
    (left_all (currency_lines full t vs) (currency_lines quiet t vs)
    (each_map (currency_left t) (each_currency (λ c. is_currency c ≡ true) t.securities (each_map (λ s f. f.currency) (table_facts t a).securities))))

-- ---- the promise

-- The quiet answer to a sheet is the full one without these lines
quiet_answer : (room : Room) (sheet : Text) → answer_by quiet room sheet ≡ quietly (answer_by full room sheet)
quiet_answer room sheet = go (tables_of room sheet) (tables_admitted room sheet)
  where
    go : (o : Outcome Tables) → ((t : Tables) → o ≡ accepted t → Admitted t × (sheet ≡ sheet_of t))
        → (o >>= λ t. accepted (report_of quiet t)) ≡ quietly (o >>= λ t. accepted (report_of full t))
    go (refused number line) admitted = refl
    go (accepted t) admitted = ap accepted (left_quieted (report_left t (admitted t refl).0))

-- The fifth promise. What the kit answers in full, it answers without K lines of zeros where it is quiet, on every sheet and buffer.
pub promise_5 : Promise5 (kit full) (kit quiet)
promise_5 sheet buffer s b a is given =
    gives (kit quiet) sheet buffer (quietly a)
    (gives_answer quiet sheet buffer (quietly a)
    (quiet_answer (length buffer) sheet ∙ ap quietly (answer_given full sheet buffer a is given)))
