-- What is refused is the earliest line that breaks a rule.
use Prim.Native.Nat.{ℕ, zero, suc, ◌+◌, ◌≤◌, ◌<◌}
use native.Mathlib.Omega.{arith}
use mathlib.Core.Bool.{Bool, true, false, ◌&&◌}
use mathlib.Core.List.{List, [], ◌++◌}
use mathlib.Core.Path.{◌≡◌, refl, sym, ap, ap₂, ◌∙◌, subst}
use lib.Dec.{T, leb, le→leb}
use lib.ListN.{length, take, drop, take-append-drop}
use Rattle.paper.specs.Units.{Text, Fields, Room, Number, Line}
use Rattle.paper.specs.Text.{ascii, LF, semicolon, lines, same}
use Rattle.paper.specs.Rows.{Tables}
use Rattle.paper.specs.Refusals.{Outcome, refused, accepted, ◌>>=◌, judged}
use Rattle.paper.specs.Sheet.{Rest, header_rules, header, read_sheet}
use Rattle.paper.specs.Answer.{room_rules, tables_of}
use Rattle.paper.specs.Tables.{hold}
use Rattle.paper.specs.Demands.{Smallest, first_lines, Behind, EarliestLine}
use Rattle.paper.proofs.Lists.{tests, left, together}
use Rattle.paper.proofs.Order.{same_true}
use Rattle.paper.proofs.Outcomes.{not_accepted, refused_one, judged_holds, judged_accepted}
use Rattle.paper.proofs.Views.{header_written}
use Rattle.paper.proofs.Smallest.{smallest_number}
use Rattle.paper.proofs.Turns.{From, Cut, rows_read, rows_in_turn}
use Rattle.paper.proofs.Cuts.{lines_cut, cut_shorter, starts_alike}

-- So a header that is refused is refused by its first line alone
header_first : (sheet : Text) (number : Number) (line : Line) → header sheet ≡ refused number line
    → header (first_lines 1 sheet) ≡ refused number line
header_first sheet number line e = go (same (ascii "BRM;") (take 4 sheet)) refl
  where
    Alike : Text → Type 0
    Alike sheet = header sheet ≡ refused number line → header (first_lines 1 sheet) ≡ refused number line

    -- Its version, behind the mark
    version : (rest : Text) → Alike (ascii "BRM;" ++ rest)
    version rest k = later (same (ascii "1\n") (take 2 rest)) refl
      where
        later : (b : Bool) → same (ascii "1\n") (take 2 rest) ≡ b → header (first_lines 1 (ascii "BRM;" ++ rest)) ≡ refused number line
        later true v = not_accepted (sym (rw v at k))
        later false v = rw (starts_alike (ascii "1") LF rest refl ∙ v) (rw v at k)

    go : (b : Bool) → same (ascii "BRM;") (take 4 sheet) ≡ b → header (first_lines 1 sheet) ≡ refused number line
    go true m =
        subst Alike (ap (λ (mark : Text). mark ++ drop 4 sheet) (same_true (ascii "BRM;") (take 4 sheet) m) ∙ take-append-drop 4 sheet)
        (version (drop 4 sheet)) e
    go false m = rw (starts_alike (ascii "BRM") semicolon sheet refl ∙ m) (rw m at e)

-- A sheet with its header is read by its rows
read_rows : (body : Text) → read_sheet (ascii "BRM;1\n" ++ body) ≡ rows_read (2, lines body)
unfolding read_sheet
read_rows body = refl

-- Cut behind a line below the first, it keeps its header
read_cut : (m : ℕ) (body : Text) → read_sheet (first_lines (suc m) (ascii "BRM;1\n" ++ body)) ≡ rows_read (2, take m (lines body))
read_cut m body = read_rows (first_lines m body) ∙ ap (λ (fss : List Fields). rows_read (2, fss)) (lines_cut m body)

-- Where no line is left, the first is refused
none_read : read_sheet [] ≡ refused 3 1
unfolding read_sheet
none_read = refl

-- A sheet whose header is refused is refused so
read_header : (sheet : Text) (number : Number) (line : Line) → header sheet ≡ refused number line → read_sheet sheet ≡ refused number line
unfolding read_sheet
read_header sheet number line h = rw h

-- What the earliest line is, of the reading of a sheet
abbrev ReadEarliest : Number → Line → Text → Type 0
ReadEarliest number line sheet =
    ((n : ℕ) → n < line → Behind n (read_sheet (first_lines n sheet))) × (read_sheet (first_lines line sheet) ≡ refused number line)

-- No line is left where a sheet is cut before the first
before_first : (sheet : Text) → Behind 0 (read_sheet (first_lines 0 sheet))
before_first sheet = subst (Behind 0) (sym none_read) (omega arith)

-- A sheet that is refused by its header
header_earliest : (sheet : Text) (number : Number) (line : Line) → header sheet ≡ refused number line → ReadEarliest number line sheet
header_earliest sheet number line h =
    let first : line ≡ 1 = (subst (Smallest {A = Rest} 1 (header_rules sheet)) h (smallest_number.1 sheet)).0 in (
      above first,
      ap (λ (n : ℕ). read_sheet (first_lines n sheet)) first ∙ read_header (first_lines 1 sheet) number line (header_first sheet number line h),
    )
  where
    above : line ≡ 1 → (n : ℕ) → n < line → Behind n (read_sheet (first_lines n sheet))
    above first zero l = before_first sheet
    above first (suc n) l = absurd (omega arith)

-- A sheet that is refused behind it
rows_earliest : (body : Text) (number : Number) (line : Line) → rows_read (2, lines body) ≡ refused number line
    → ReadEarliest number line (ascii "BRM;1\n" ++ body)
rows_earliest body number line e = (above, here line refl)
  where
    cut_to : ℕ → Outcome Tables
    cut_to m = rows_read (2, take m (lines body))

    cut : (m : ℕ) → Cut (2 + m) (refused number line) (cut_to m)
    cut m = subst (λ (o : Outcome Tables). Cut (2 + m) o (cut_to m)) e ((rows_in_turn 2 (lines body)).1 m)

    from_second : 2 ≤ line
    from_second = subst (From {A = Tables} 2) e (rows_in_turn 2 (lines body)).0

    behind : (m : ℕ) (o : Outcome Tables) → From (2 + m) o → Behind (suc m) o
    behind m (refused number line) h = omega (arith, h)
    behind m (accepted t) h = tt

    above : (n : ℕ) → n < line → Behind n (read_sheet (first_lines n (ascii "BRM;1\n" ++ body)))
    above zero l = before_first (ascii "BRM;1\n" ++ body)
    above (suc m) l = subst (Behind (suc m)) (sym (read_cut m body)) (behind m (cut_to m) ((cut m).1 (omega (arith, l))))

    here : (n : ℕ) → n ≡ line → read_sheet (first_lines n (ascii "BRM;1\n" ++ body)) ≡ refused number line
    here zero on = absurd (omega (arith, on, from_second))
    here (suc m) on = read_cut m body ∙ (cut m).0 (omega (arith, on))

-- So every sheet that is refused
read_earliest : (sheet : Text) (number : Number) (line : Line) → read_sheet sheet ≡ refused number line → ReadEarliest number line sheet
read_earliest sheet number line e = go (header sheet) refl
  where
    go : (o : Outcome Rest) → header sheet ≡ o → ReadEarliest number line sheet
    go (refused m l) h =
        let one = refused_one (sym (read_header sheet m l h) ∙ e) in
        header_earliest sheet number line (h ∙ ap₂ refused one.0 one.1)
    go (accepted rest) h =
        let written = (header_written sheet rest h).1 in
        subst (ReadEarliest number line) (sym written)
        (rows_earliest (drop 6 sheet) number line (sym (read_rows (drop 6 sheet)) ∙ ap read_sheet (sym written) ∙ e))

-- The room has no part in it, where it is enough: a sheet that is cut has no more bytes
room_holds : (room : Room) (sheet : Text) → T (hold (room_rules room sheet)) → (n : ℕ) → T (hold (room_rules room (first_lines n sheet)))
room_holds room sheet h n =
    let short : length sheet ≤ 65_536 = search tests in
    together (leb 32_768 room) (leb (length (first_lines n sheet)) 65_536 && true) (left (leb 32_768 room) _ h)
    (together (leb (length (first_lines n sheet)) 65_536) true
    (le→leb (length (first_lines n sheet)) 65_536 (omega (arith, cut_shorter n sheet))) tt)

room_read : (room : Room) (sheet : Text) → T (hold (room_rules room sheet)) → tables_of room sheet ≡ read_sheet sheet
room_read room sheet h = ap (λ (o : Outcome Text). o >>= read_sheet) (judged_holds 0 sheet (room_rules room sheet) h)

-- What is refused is the earliest line
pub earliest_line : EarliestLine
earliest_line room sheet number line e = go (judged 0 sheet (room_rules room sheet)) refl
  where
    go : (o : Outcome Text) → judged 0 sheet (room_rules room sheet) ≡ o
        → ((n : ℕ) → n < line → Behind n (tables_of room (first_lines n sheet)))
        × (1 ≤ line → tables_of room (first_lines line sheet) ≡ refused number line)
    go (refused m l) h =
        let on : l ≡ 0 = (subst (Smallest {A = Text} 0 (room_rules room sheet)) h (smallest_number.0 room sheet)).0 in
        let same : l ≡ line = (refused_one (sym (ap (λ (o : Outcome Text). o >>= read_sheet) h) ∙ e)).1 in
        (λ n k. absurd (omega (arith, on, same)), λ k. absurd (omega (arith, on, same)))
    go (accepted s) h =
        let holding = (judged_accepted 0 sheet s (room_rules room sheet) h).1 in
        let (above, here) = read_earliest sheet number line (sym (room_read room sheet holding) ∙ e) in
        let cut : (n : ℕ) → tables_of room (first_lines n sheet) ≡ read_sheet (first_lines n sheet) =
        λ n. room_read room (first_lines n sheet) (room_holds room sheet holding n)
        in
        (λ n k. subst (Behind n) (sym (cut n)) (above n k), λ k. cut line ∙ here)
