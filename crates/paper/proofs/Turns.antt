-- Reading goes by each line as it comes: what is said of a line is said whether or not lines stand behind it.
use Prim.Native.Nat.{ℕ, zero, suc, ◌+◌, ◌≤◌, ◌<◌}
use native.Mathlib.Nat.{add-zero, add-suc, suc-add}
use native.Mathlib.Omega.{arith}
use mathlib.Core.Bool.{Bool, true, false}
use mathlib.Core.List.{List, [], ◌∷◌, reverse, tail}
use mathlib.Core.Path.{◌≡◌, refl, subst}
use lib.Dec.{eqb-suc-zero}
use lib.ListN.{length, get_or, take}
use Rattle.paper.specs.Units.{Fields, Number, Line, Date}
use Rattle.paper.specs.Days.{day}
use Rattle.paper.specs.Rows.{Tables}
use Rattle.paper.specs.Refusals.{Outcome, refused, accepted, ◌>>=◌, RowKind, date_kind, class_kind, priority_kind, security_kind, trade_kind, period_of}
use Rattle.paper.specs.Sheet.{Rest, begins, row, rows_from, section, date_row, ended, read_tables}
use Rattle.paper.specs.Demands.{Smallest, row_rules, RowSmallest}
use Rattle.paper.proofs.Smallest.{smallest_number}

-- No refusal, or one for a line from this one on
abbrev pub From : {A : Type 0} → Line → Outcome A → Type 0
From at (refused number line) = at ≤ line
From at (accepted a) = Unit

-- What all lines give, beside what is given where they are cut right before a line: a refusal above the cut stays as it is,
-- and where all lines are refused behind the cut, none above it is
abbrev pub Cut : {A : Type 0} → Line → Outcome A → Outcome A → Type 0
Cut end (refused number line) cut = (line < end → cut ≡ refused number line) × (end ≤ line → From end cut)
Cut end (accepted a) cut = Unit

-- Where the cut takes nothing away
cut_none : {A : Type 0} (end : Line) (o : Outcome A) → Cut end o o
cut_none end (refused number line) = (λ l. refl, λ l. l)
cut_none end (accepted a) = tt

-- Where it takes all away, and nothing above is refused
cut_all : {A : Type 0} (at : Line) (o cut : Outcome A) → From at o → From at cut → Cut at o cut
cut_all at (refused number line) cut from h = (λ l. absurd (omega arith), λ l. h)
cut_all at (accepted a) cut from h = tt

-- A reader of the lines from one on refuses none above, and goes by each line as it comes
abbrev pub InTurn : {A : Type 0} → (Rest → Outcome A) → Type 0
InTurn read =
    (at : Line) (fss : List Fields)
    → From at (read (at, fss)) × ((m : ℕ) → Cut (at + m) (read (at, fss)) (read (at, take m fss)))

-- A line further on
further : {A : Type 0} (at : Line) (o : Outcome A) → From (suc at) o → From at o
further at (refused number line) h = omega (arith, h)
further at (accepted a) h = tt

-- The refusal of a row is for its line
row_line : {R : Type 0} (kind : RowKind R) → RowSmallest kind
    → (above : List R) (at : Line) (fs : Fields) (number : Number) (line : Line) → row kind above at fs ≡ refused number line → line ≡ at
row_line kind smallest above at fs number line e = (subst (Smallest at (row_rules kind above fs)) e (smallest above at fs)).0

-- A section, and what reads on behind it
module _ {R A : Type 0} (kind : RowKind R) (smallest : RowSmallest kind)
    (next : List R × Rest → Outcome A) (later : (rs : List R) → InTurn (λ rest. next (rs, rest))) where
  abbrev onward : List R → Line → List Fields → Outcome A
  onward above at fss = rows_from kind above at fss >>= next

  -- ... by whether a line has the letter, and by how it is judged
  abbrev stepped : List R → Line → Fields → List Fields → Bool → Outcome R → Outcome A
  stepped above at fs more b o =
      elim b [
        | false ↦ accepted (reverse above, (at, fs ∷ more))
        | true ↦ elim o [ refused number line ↦ refused number line | accepted r ↦ rows_from kind (r ∷ above) (suc at) more ]
      ]
      >>= next

  rows_from_lem : (above : List R) (at : Line) (fss : List Fields) → From at (onward above at fss)
  unfolding rows_from
  rows_from_lem above at [] = (later (reverse above) at []).0
  rows_from_lem above at (fs ∷ more) =
      go (begins kind.letter fs) (row kind above at fs) refl (λ r. rows_from_lem (r ∷ above) (suc at) more)
    where
      go : (b : Bool) (o : Outcome R) → row kind above at fs ≡ o → ((r : R) → From (suc at) (onward (r ∷ above) (suc at) more))
          → From at (stepped above at fs more b o)
      go false o e rest = (later (reverse above) at (fs ∷ more)).0
      go true (refused number line) e rest =
          omega (arith, row_line kind smallest above at fs number line e)
      go true (accepted r) e rest = further at (onward (r ∷ above) (suc at) more) (rest r)

  rows_cut : (above : List R) (at : Line) (fss : List Fields) (m : ℕ)
      → Cut (at + m) (onward above at fss) (onward above at (take m fss))
  unfolding rows_from
  rows_cut above at fss zero =
      rw (add-zero at)
      (cut_all at (onward above at fss) (onward above at []) (rows_from_lem above at fss) (later (reverse above) at []).0)
  rows_cut above at [] (suc m) = cut_none (at + suc m) (onward above at [])
  rows_cut above at (fs ∷ more) (suc m) =
      go (begins kind.letter fs) (row kind above at fs) (λ r. rows_cut (r ∷ above) (suc at) more m)
    where
      go : (b : Bool) (o : Outcome R)
          → ((r : R) → Cut (suc at + m) (onward (r ∷ above) (suc at) more) (onward (r ∷ above) (suc at) (take m more)))
          → Cut (at + suc m) (stepped above at fs more b o) (stepped above at fs (take m more) b o)
      go false o rest = (later (reverse above) at (fs ∷ more)).1 (suc m)
      go true (refused number line) rest = cut_none (at + suc m) (refused number line)
      go true (accepted r) rest = rw (add-suc at m) (rw (suc-add at m) at (rest r))

  -- It goes by each line as it comes, where what reads on does
  section_in_turn : InTurn (λ rest. section kind rest >>= next)
  section_in_turn at fss = (rows_from_lem [] at fss, rows_cut [] at fss)

-- So does the D row
date_in_turn : {A : Type 0} (next : Date × Rest → Outcome A) → ((date : Date) → InTurn (λ rest. next (date, rest)))
    → InTurn (λ rest. date_row rest >>= next)
date_in_turn {A} next later at fss = (from fss, cut fss)
  where
    judge : Fields → Outcome Date
    judge = row date_kind [] at

    stepped : List Fields → Outcome Date → Outcome A
    stepped fss o = o >>= (λ date. accepted (date, (suc at, tail fss))) >>= next

    from : (fss : List Fields) → From at (date_row (at, fss) >>= next)
    from fss = go (judge (get_or fss 0 [])) refl
      where
        go : (o : Outcome Date) → judge (get_or fss 0 []) ≡ o → From at (stepped fss o)
        go (refused number line) e =
            omega (arith, row_line date_kind smallest_number.2 [] at (get_or fss 0 []) number line e)
        go (accepted date) e = further at (next (date, (suc at, tail fss))) (later date (suc at) (tail fss)).0

    cut : (fss : List Fields) (m : ℕ) → Cut (at + m) (date_row (at, fss) >>= next) (date_row (at, take m fss) >>= next)
    cut fss zero = rw (add-zero at) (cut_all at (date_row (at, fss) >>= next) (date_row (at, []) >>= next) (from fss) (from []))
    cut [] (suc m) = cut_none (at + suc m) (date_row (at, []) >>= next)
    cut (fs ∷ more) (suc m) = go (judge fs)
      where
        go : (o : Outcome Date) → Cut (at + suc m) (stepped (fs ∷ more) o) (stepped (fs ∷ take m more) o)
        go (refused number line) = cut_none (at + suc m) (refused number line)
        go (accepted date) = rw (add-suc at m) (rw (suc-add at m) at ((later date (suc at) more).1 m))

-- And the end of the sheet, which refuses the first line that is left
end_in_turn : {A : Type 0} (a : A) → InTurn (ended a)
end_in_turn {A} a at [] = (tt, λ m. cut_none (at + m) (ended a (at, [])))
end_in_turn {A} a at (fs ∷ more) = (from, cut)
  where
    left_over : (more : List Fields) → ended a (at, fs ∷ more) ≡ refused 5 at
    left_over more = rw (eqb-suc-zero (length more))

    from : From at (ended a (at, fs ∷ more))
    from = rw (left_over more) (omega arith)

    cut : (m : ℕ) → Cut (at + m) (ended a (at, fs ∷ more)) (ended a (at, take m (fs ∷ more)))
    cut zero = rw (add-zero at) (cut_all at (ended a (at, fs ∷ more)) (accepted a) from tt)
    cut (suc m) = rw (left_over more, left_over (take m more)) (cut_none {A = A} (at + suc m) (refused 5 at))

-- All rows of a sheet, behind its header
abbrev pub rows_read : Rest → Outcome Tables
rows_read rest = date_row rest >>= λ x. read_tables x.0 x.1

-- So do they
pub rows_in_turn : InTurn rows_read
rows_in_turn =
    let (room, head, dates, classes, priorities, securities, trades) = smallest_number in
    date_in_turn (λ x. read_tables x.0 x.1) λ date.
    section_in_turn class_kind classes _ λ cs.
    section_in_turn (priority_kind cs) (priorities cs) _ λ os.
    section_in_turn (security_kind cs) (securities cs) _ λ ss.
    section_in_turn (trade_kind (day date) (period_of ss)) (trades (day date) (period_of ss)) _ λ ts.
    end_in_turn (record { date = date; classes = cs; priorities = os; securities = ss; trades = ts })
