-- The three demands, proved of the kit's values, for either listing at once. No axiom.
use Prim.Native.Nat.{ℕ, ◌+◌, ◌≤◌}
use native.Mathlib.Omega.{arith}
use mathlib.Core.Bool.{Bool, true, ◌&&◌}
use mathlib.Core.List.{List, [], ◌∷◌, ◌++◌, map}
use mathlib.Core.Path.{◌≡◌, refl, sym, ap, ap₂, ◌∙◌, subst, fun_ext}
use lib.Dec.{T, leb, ltb, leb→le, le→leb, lt→ltb}
use lib.ListN.{length, take, drop}
use lib.Seq.{take-append_seam}
use Rattle.paper.specs.Units.{Text, Room, Number, Currency}
use Rattle.paper.specs.Rows.{ClassRow, PriorityRow, Tables}
use Rattle.paper.specs.Lists.{sum, every, only, joined_up}
use Rattle.paper.specs.Text.{same}
use Rattle.paper.specs.Days.{day}
use Rattle.paper.specs.Currencies.{currencies}
use Rattle.paper.specs.Valuation.{Valued, valued_from}
use Rattle.paper.specs.Offsetting.{nets_in, Book, opening}
use Rattle.paper.specs.Refusals.{Outcome, refused, accepted, judged, ◌>>=◌, is_class, is_factor, has_class, rules_of, priority_kind}
use Rattle.paper.specs.Sheet.{read_sheet}
use Rattle.paper.specs.Report.{Listing, is_listed, trade_line, margin_of, class_line, currency_line, mark_in, currency_lines, report_of}
use Rattle.paper.specs.Answer.{Answer, room_rules, tables_of, answer_by, number_of, buffer_after, handed_back, Kit, kit}
use Rattle.paper.specs.Tables.{sheet_of, hold, hold_down, Admitted}
use Rattle.paper.specs.Demands.{IsAnswer, Gives, Demand1, Demand2, Demand3, Reordering, RowTakes, names, with_priorities}
use Rattle.paper.proofs.Lists.{tests, passes, holds, together, both, every_cons, each_every}
use Rattle.paper.proofs.Rules.{each_holds, priorities_at_most}
use Rattle.paper.proofs.Outcomes.{Sound, judged_holds, judged_accepted, judged_sound, both_accepted, bind_sound, accepted_one}
use Rattle.paper.proofs.Views.{written_read, read_written}
use Rattle.paper.proofs.Refusals.{read_sound}
use Rattle.paper.proofs.Smallest.{smallest_number}
use Rattle.paper.proofs.Earliest.{earliest_line}
use Rattle.paper.proofs.Lengths.{report_fits, sheet_fits}
use Rattle.paper.proofs.Reordering.{Reordered, Apart, same_length, same_every}
use Rattle.paper.proofs.Offsetting.{taken_there, row_conserves, row_lowers, rows_keep, rows_reordered, same_offsets}

-- The kit gives the answer of document 01, whatever the sheet and the buffer: its number, and what the buffer then holds
pub gives_answer : (listing : Listing) (sheet buffer : Text) (a : Answer) → answer_by listing (length buffer) sheet ≡ a
    → kit listing sheet buffer ≡ (number_of a, buffer_after a buffer)
unfolding kit
gives_answer listing sheet buffer a e = ap (λ (a : Answer). handed_back a buffer) e

-- A kit that hands an answer back gives it: a refusal which leaves the buffer as it was, or the report at its start
pub gives : (kit : Kit) (sheet buffer : Text) (a : Answer) → kit sheet buffer ≡ handed_back a buffer → Gives kit sheet buffer a
gives kit sheet buffer (refused number line) e = e
gives kit sheet buffer (accepted report) e = e

-- ... and the other way round
pub given_back : (kit : Kit) (sheet buffer : Text) (a : Answer) → Gives kit sheet buffer a → kit sheet buffer ≡ handed_back a buffer
given_back kit sheet buffer (refused number line) e = e
given_back kit sheet buffer (accepted report) e = e

-- ---- what an answer may be

-- What is read is sound, where the buffer and the sheet have room
pub tables_sound : (room : Room) (sheet : Text) → Sound 65_536 (tables_of room sheet)
tables_sound room sheet =
    bind_sound 65_536 (judged 0 sheet (room_rules room sheet)) read_sheet
    (judged_sound 65_536 0 sheet (room_rules room sheet) refl (omega arith))
    (λ s e.
    let (same, holding) = judged_accepted 0 sheet s (room_rules room sheet) e in
    read_sound s (subst (λ (s : Text). length s ≤ 65_536) same (leb→le (length sheet) 65_536 (search tests))))

-- Tables that were read are admitted, and the sheet is their writing
pub tables_admitted : (room : Room) (sheet : Text) (t : Tables) → tables_of room sheet ≡ accepted t → Admitted t × (sheet ≡ sheet_of t)
tables_admitted room sheet t e =
    both_accepted (judged 0 sheet (room_rules room sheet)) read_sheet t e λ s e1 k1.
    let same = (judged_accepted 0 sheet s (room_rules room sheet) e1).0 in
    subst (λ (s : Text). Admitted t × (s ≡ sheet_of t)) (sym same) (read_written s t k1)

-- ... and the buffer has room
pub tables_room : (room : Room) (sheet : Text) (t : Tables) → tables_of room sheet ≡ accepted t → 32_768 ≤ room
tables_room room sheet t e =
    both_accepted (judged 0 sheet (room_rules room sheet)) read_sheet t e λ s e1 k1.
    let (same, holding) = judged_accepted 0 sheet s (room_rules room sheet) e1 in
    leb→le 32_768 room (search tests)

-- What goes on from the tables that were read is an answer where it is one for admitted tables
pub goes_on : (highest : Number) → 12 ≤ highest → (room : Room) (sheet : Text) (next : Tables → Answer)
    → ((t : Tables) → Admitted t → IsAnswer highest (next t)) → IsAnswer highest (tables_of room sheet >>= next)
goes_on highest most room sheet next fits = go (tables_of room sheet) (tables_sound room sheet) (tables_admitted room sheet)
  where
    go : (o : Outcome Tables) → Sound 65_536 o → ((t : Tables) → o ≡ accepted t → Admitted t × (sheet ≡ sheet_of t))
        → IsAnswer highest (o >>= next)
    go (refused number line) (low, high, below) admitted = (low, omega arith, below)
    go (accepted t) s admitted = fits t (admitted t refl).0

-- So is what the kit answers, whatever the sheet
pub is_answer : (listing : Listing) (room : Room) (sheet : Text) → IsAnswer 12 (answer_by listing room sheet)
is_answer listing room sheet = goes_on 12 (omega arith) room sheet (λ t. accepted (report_of listing t)) (report_fits listing)

-- Demand 1. The kit answers every sheet of bytes and ends. A bad sheet is refused by number and line, and a refusal
-- leaves every byte of the lent report as it was. Callers check nothing first.
pub demand_1 : (listing : Listing) → Demand1 (kit listing)
demand_1 listing = (
  λ sheet buffer s b.
      let a = answer_by listing (length buffer) sheet in
      (a, is_answer listing (length buffer) sheet, gives (kit listing) sheet buffer a (gives_answer listing sheet buffer a refl)),
  λ sheet buffer s b number line e.
      gives_answer listing sheet buffer (refused number line) (ap (λ (o : Outcome Tables). o >>= λ t. accepted (report_of listing t)) e),
  smallest_number,
  earliest_line,
)

-- ---- accepted exactly when admitted

-- Admitted tables, written as a sheet, are what is read of it
pub tables_read : (room : Room) (t : Tables) → 32_768 ≤ room → Admitted t → tables_of room (sheet_of t) ≡ accepted t
tables_read room t h a =
    let holding : T (hold (room_rules room (sheet_of t))) =
    together (leb 32_768 room) (leb (length (sheet_of t)) 65_536 && true) (le→leb 32_768 room h)
    (together (leb (length (sheet_of t)) 65_536) true (le→leb (length (sheet_of t)) 65_536 (sheet_fits t a)) tt)
    in
    ap (λ (o : Outcome Text). o >>= read_sheet) (judged_holds 0 (sheet_of t) (room_rules room (sheet_of t)) holding) ∙ written_read t a

-- The answer to it is their report
answer_admitted : (listing : Listing) (room : Room) (t : Tables) → 32_768 ≤ room → Admitted t
    → answer_by listing room (sheet_of t) ≡ accepted (report_of listing t)
answer_admitted listing room t h a = ap (λ (o : Outcome Tables). o >>= λ t. accepted (report_of listing t)) (tables_read room t h a)

-- One report is handed back
one_report : (r report buffer : Text) → number_of (accepted r) ≡ number_of (accepted report)
    → buffer_after (accepted r) buffer ≡ buffer_after (accepted report) buffer → r ≡ report
one_report r report buffer number bytes =
    sym (take-append_seam r (drop (length r) buffer)) ∙ ap (take (length r)) bytes
    ∙ ap (λ (n : ℕ). take n (report ++ drop (length report) buffer)) number
    ∙ take-append_seam report (drop (length report) buffer)

-- ... and one answer, be it a report or a refusal
pub one_answer : (highest : Number) (buffer : Text) (a b : Answer) → IsAnswer highest a → IsAnswer highest b
    → handed_back a buffer ≡ handed_back b buffer → a ≡ b
one_answer highest buffer (refused number line) (refused n l) (low, high, below) (lowest, most, less) e =
    let same = ap (λ (x : ℕ × Text). x.0) e in
    ap₂ refused (omega (arith, same)) (omega (arith, same))
one_answer highest buffer (refused number line) (accepted report) (low, high, below) fits e =
    absurd (omega (arith, ap (λ (x : ℕ × Text). x.0) e))
one_answer highest buffer (accepted report) (refused number line) fits (low, high, below) e =
    absurd (omega (arith, ap (λ (x : ℕ × Text). x.0) e))
one_answer highest buffer (accepted r) (accepted report) small fits e =
    ap accepted (one_report r report buffer (ap (λ (x : ℕ × Text). x.0) e) (ap (λ (x : ℕ × Text). x.1) e))

-- So what a kit of ours gives is its answer
pub answer_given : (listing : Listing) (sheet buffer : Text) (a : Answer) → IsAnswer 12 a → Gives (kit listing) sheet buffer a
    → answer_by listing (length buffer) sheet ≡ a
answer_given listing sheet buffer a is given =
    let own = answer_by listing (length buffer) sheet in
    one_answer 12 buffer own a (is_answer listing (length buffer) sheet) is
    (sym (gives_answer listing sheet buffer own refl) ∙ given_back (kit listing) sheet buffer a given)

-- Demand 2. An accepted sheet gives exactly the figures of document 01, over whole numbers, and a sheet is accepted
-- exactly when document 01's rules admit it. The K lines in its report are those of the kit's listing.
pub demand_2 : (listing : Listing) → Demand2 listing (kit listing)
demand_2 listing sheet buffer s b room report fits = (
  λ given.
      both_accepted (tables_of (length buffer) sheet) (λ t. accepted (report_of listing t)) report
      (answer_given listing sheet buffer (accepted report) fits given) λ t e k.
      let (admitted, written) = tables_admitted (length buffer) sheet t e in
      (t, admitted, written, sym (accepted_one k)),
  λ (t, admitted, written, figures).
      gives_answer listing sheet buffer (accepted report)
      (ap (answer_by listing (length buffer)) written ∙ answer_admitted listing (length buffer) t room admitted ∙ ap accepted (sym figures)),
)

-- ---- priority rows in another order

-- What the rules ask of a priority row's fields, and of the classes that it names
abbrev formed : PriorityRow → Bool
formed o = is_class o.first && is_class o.second && is_factor o.factor

abbrev known : List ClassRow → PriorityRow → Bool
known cs o = has_class cs o.first && has_class cs o.second

-- The rules hold for a table exactly where both are so of each row, and there are at most 200
down_allowed : (cs : List ClassRow) (above os : List PriorityRow) → T (hold_down (priority_kind cs) above os)
    → every (λ o. formed o && known cs o) os ≡ true
down_allowed cs above os h =
    each_every (λ o. formed o && known cs o)
    (each_holds (priority_kind cs) (λ o. (formed o && known cs o) ≡ true)
    (λ above o h.
    let six : T (formed o) = search tests in
    let ten : T (known cs o) = search tests in
    passes (formed o && known cs o) (together (formed o) (known cs o) six ten))
    above os h)

allowed_down : (cs : List ClassRow) (above os : List PriorityRow) → every (λ o. formed o && known cs o) os ≡ true
    → length above + length os ≤ 200 → T (hold_down (priority_kind cs) above os)
allowed_down cs above [] e few = tt
allowed_down cs above (o ∷ os) e few =
    let (here, below) = every_cons (λ o. formed o && known cs o) o os e in
    let (six, ten) = both (formed o) (known cs o) here in
    together (hold (rules_of (priority_kind cs) above o)) (hold_down (priority_kind cs) (o ∷ above) os)
    (together (formed o) (ltb (length above) 200 && (known cs o && true)) (holds (formed o) six)
    (together (ltb (length above) 200) (known cs o && true) (lt→ltb (length above) 200 (omega arith))
    (together (known cs o) true (holds (known cs o) ten) tt)))
    (allowed_down cs (o ∷ above) os below (omega arith))

-- So another order of the rows is admitted
reordered_admitted : (t : Tables) (os : List PriorityRow) → Reordered (Apart names) t.priorities os → Admitted t
    → Admitted (with_priorities t os)
reordered_admitted t os r (d, c, o, s, v) = (
  d,
  c,
  allowed_down t.classes [] os (same_every (Apart names) (λ o. formed o && known t.classes o) r (down_allowed t.classes [] t.priorities o))
      (omega (arith, same_length (Apart names) r, priorities_at_most t.classes t.priorities o)),
  s,
  v,
)

-- ... with the same report
reordered_report : (listing : Listing) (t : Tables) (os : List PriorityRow) → Reordered (Apart names) t.priorities os
    → report_of listing (with_priorities t os) ≡ report_of listing t
unfolding report_of currency_lines
reordered_report listing t os r =
    ap₂ (λ (vs : List Valued) (currency : List Valued → Currency → Text).
    joined_up (map trade_line vs) ++ joined_up (map (currency vs) (currencies t.securities)))
    (ap (λ (n : ℕ). valued_from (day t.date) t.securities (3 + length t.classes + n + length t.securities) t.trades)
    (sym (same_length (Apart names) r)))
    (fun_ext λ vs. fun_ext λ c.
    ap (λ (b : Book).
    joined_up (map (class_line c b) (only (is_listed listing b) t.classes))
    ++ currency_line c (mark_in c vs) (sum (map (margin_of b) t.classes)))
    (sym (same_offsets t.priorities os r (opening (nets_in t vs c)))))

-- Demand 3. Reorder an accepted sheet's priority rows so that each class still meets the rows that name it, the same rows
-- in the same order: the new sheet is accepted, with the same report byte for byte. Each row takes as much off the longs
-- as off the shorts, no position grows or falls below zero, and a class that no row names keeps both its positions.
pub demand_3 : (listing : Listing) → Demand3 (kit listing)
demand_3 listing = (reordering, row_takes, rows_keep)
  where
    reordering : Reordering (kit listing)
    reordering sheet buffer s b room report fits given =
        let (t, admitted, written, figures) = (demand_2 listing sheet buffer s b room report fits).0 given in (
          t,
          admitted,
          written,
          λ os same.
              let r = rows_reordered t.priorities os same in
              gives_answer listing (sheet_of (with_priorities t os)) buffer (accepted report)
              (answer_admitted listing (length buffer) (with_priorities t os) room (reordered_admitted t os r admitted)
              ∙ ap accepted (reordered_report listing t os r ∙ sym figures)),
        )

    row_takes : RowTakes
    row_takes o h b =
        let factor : o.factor ≤ 10_000 = leb→le o.factor 10_000 h in (
          row_conserves o factor b,
          λ n. (row_lowers o b n).0,
          λ n. (row_lowers o b n).1,
          λ n m. (taken_there o.factor n m b factor).0,
          λ n m. (taken_there o.factor n m b factor).1,
        )
