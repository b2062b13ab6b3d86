-- The fourth promise (02, c): an explanation is the true reason of a margin. As types over the definitions; proved of
-- `Answer.explainer` in proofs/Reasons.
use Rattle.std.specs.Prelude.{ℕ, suc, ◌+◌, ◌-◌, ◌≤◌, ◌<◌, true, false, List, [], ◌∷◌, ◌++◌, map, ◌≡◌, eqb, ltb, pos, length, take}
use Rattle.std.proofs.Math.Option.{some}
use Rattle.paper.specs.Units.{Text, Fields, Number, Line, Class, Currency, Whole}
use Rattle.paper.specs.Lists.{sum, only, joined_up, Each, InOrder}
use Rattle.paper.specs.Signs.{above_zero, below_zero}
use Rattle.paper.specs.Text.{ascii, same, before, line_of, digits}
use Rattle.paper.specs.Rows.{ClassRow, SecurityRow, Tables}
use Rattle.paper.specs.Valuation.{valued_in, signed_worths_in, net_of, security_of, class_of}
use Rattle.paper.specs.Refusals.{refused}
use Rattle.paper.specs.Offsetting.{Netted, Book, position, offset_all, share, opening_in, remaining_in}
use Rattle.paper.specs.Explanation.{Took, Setter, by_long, by_short, by_both, Explanation, priorities_line, explanation_of, explanation_text}
use Rattle.paper.specs.Answer.{Answer, tables_of, has_both, Kit}
use Rattle.paper.specs.Tables.{sheet_of, Admitted}
use Rattle.paper.specs.Demands.{IsBytes, Refuses, Reports, Gives, IsAnswer}

-- ---- the nets

-- A security is of a currency and a class
pub record Belongs (t : Tables) (c : Currency) (n : Class) (s : SecurityRow) : Type 0 where
  pub currency : same s.currency c ≡ true
  pub class : class_of t.classes s.kind s.duration ≡ some n

-- A listed net is that of a security of the currency and the class, which the sheet has under its code, and it is not zero
pub record NetSo (t : Tables) (c : Currency) (n : Class) (p : Netted) : Type 0 where
  pub security : SecurityRow
  pub found : security_of t.securities p.code ≡ some security
  pub belongs : Belongs t c n security
  pub net : p.net ≡ net_of (signed_worths_in p.code (valued_in t))
  pub some : p.net ≡ pos 0 → ⊥

-- A security of the currency and the class that is not listed, by its code, has a net of 0
abbrev pub NetListed : Tables → Currency → Class → List Netted → SecurityRow → Type 0
NetListed t c n nets s =
    Belongs t c n s → only (λ p. same p.code s.code) nets ≡ [] → net_of (signed_worths_in s.code (valued_in t)) ≡ pos 0

-- ---- the rows

-- The positions that the rows of the priority list above a place leave, whole units: those that the row there meets
abbrev pub met_at : Tables → Currency → ℕ → Book
met_at t c i = offset_all (take i t.priorities) (opening_in t c)

-- The row at a place takes so much off a class's long and short: what it meets is what it leaves and that. Whole units
pub record Takes (t : Tables) (c : Currency) (n : Class) (i : ℕ) (of_long of_short : Whole) : Type 0 where
  pub long : position (met_at t c i).long n ≡ position (met_at t c (suc i)).long n + of_long
  pub short : position (met_at t c i).short n ≡ position (met_at t c (suc i)).short n + of_short

-- A listed row is one of the list, by its line, and took what it says, which is something
pub record TookSo (t : Tables) (c : Currency) (n : Class) (r : Took) : Type 0 where
  pub place : ℕ
  pub there : place < length t.priorities
  pub line : r.line ≡ priorities_line t + place
  pub takes : Takes t c n place r.long r.short
  pub some : 1 ≤ r.long + r.short

-- Off the long by all listed rows: whole units
abbrev pub off_long : Explanation → Whole
off_long e = sum (map (λ r. r.long) e.rows)

-- ... and off the short
abbrev pub off_short : Explanation → Whole
off_short e = sum (map (λ r. r.short) e.rows)

-- ---- the side that set the margin

-- ... of a remaining long and short: the larger, and its amount. Whole units
abbrev pub SetBy : Setter → Whole → Whole → Whole → Type 0
SetBy by_long long short amount = (short < long) × (amount ≡ long)
SetBy by_short long short amount = (long < short) × (amount ≡ short)
SetBy by_both long short amount = (long ≡ short) × (amount ≡ long)

-- The class's K line, by what the explanation says: the opening positions less what is listed, and the deposit factor's share of
-- the amount. Whole units
abbrev pub explained_line : Tables → Currency → Class → Explanation → ClassRow → Fields
explained_line t c n e row =
    ascii "K" ∷ c ∷ digits n ∷ digits (position (opening_in t c).long n - off_long e)
    ∷ digits (position (opening_in t c).short n - off_short e) ∷ digits (share row.deposit e.amount) ∷ []

-- A text of lines has a line, by its fields
abbrev pub HasLine : Fields → Text → Type 0
HasLine line text =
    (above : List Fields) × ((below : List Fields) × (text ≡ joined_up (map line_of (above ++ (line ∷ below)))))

-- ---- the whole

-- An explanation is the true reason of what a full report says of a class in a currency
pub record Reason (t : Tables) (c : Currency) (n : Class) (report : Text) (e : Explanation) : Type 0 where
  -- The nets above zero add up to the opening long, and those below to the opening short
  pub nets_long : sum (map (λ p. above_zero p.net) e.nets) ≡ position (opening_in t c).long n
  pub nets_short : sum (map (λ p. below_zero p.net) e.nets) ≡ position (opening_in t c).short n
  -- Each of them is a security's own, and no security is left out that has one
  pub nets_own : Each (NetSo t c n) e.nets
  pub nets_all : Each (NetListed t c n e.nets) t.securities
  -- They are in sheet order, in which codes rise, and none is there twice
  pub nets_order : InOrder (λ p q. before p.code q.code) e.nets
  -- Opening less all listed amounts is what remains, on each side
  pub left_long : position (opening_in t c).long n ≡ position (remaining_in t c).long n + off_long e
  pub left_short : position (opening_in t c).short n ≡ position (remaining_in t c).short n + off_short e
  -- A listed row took what it says, and one that is not listed took nothing
  pub rows_own : Each (TookSo t c n) e.rows
  pub rows_all : (i : ℕ) → i < length t.priorities → only (λ r. eqb r.line (priorities_line t + i)) e.rows ≡ []
      → Takes t c n i 0 0
  -- They are in sheet order, and none is there twice
  pub rows_order : InOrder (λ r q. ltb r.line q.line) e.rows
  -- The side is the larger that remains; and what remains, and the share of its amount, is what the class's K line has
  pub setter : SetBy e.setter (position (remaining_in t c).long n) (position (remaining_in t c).short n) e.amount
  pub line : Each (λ row. row.class ≡ n → HasLine (explained_line t c n e row) report) t.classes

-- The fourth promise, of a kit that gives full reports and of one for each question. Every call is answered, with a refusal 1..13
-- or a text that fits. A sheet that is refused a report is refused an explanation by the same number and line. Of a sheet that has
-- a report a currency or class that it lacks is refused 13, line 0; any other is explained, and the explanation is the true reason
-- of that report's line.
abbrev pub Promise4 : Kit → (Text → Class → Kit) → Type 0
Promise4 full explainer =
    ((sheet currency buffer : Text) (class : Class) → IsBytes sheet → IsBytes currency → IsBytes buffer
    → (a : Answer) × IsAnswer 13 a × Gives (explainer currency class) sheet buffer a)
    × ((sheet currency buffer : Text) (class : Class) → IsBytes sheet → IsBytes currency → IsBytes buffer
    → (number : Number) (line : Line) → tables_of (length buffer) sheet ≡ refused number line
    → Refuses (explainer currency class) sheet buffer number line)
    × ((sheet currency buffer : Text) (class : Class) → IsBytes sheet → IsBytes currency → IsBytes buffer → 32_768 ≤ length buffer
    → (report : Text) → length report ≤ 32_768 → Reports full sheet buffer report
    → (t : Tables) × Admitted t × (sheet ≡ sheet_of t)
    × (has_both t currency class ≡ false → Refuses (explainer currency class) sheet buffer 13 0)
    × (has_both t currency class ≡ true
    → Reports (explainer currency class) sheet buffer (explanation_text (explanation_of t currency class))
    × Reason t currency class report (explanation_of t currency class)))
