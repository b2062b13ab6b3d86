-- What was read of a sheet, refused or accepted, and what an entry then answers.
use Prim.Native.Nat.{ℕ, ◌≤◌}
use native.Mathlib.Nat.{zero-add}
use native.Mathlib.Omega.{arith}
use mathlib.Core.List.{◌++◌}
use mathlib.Core.Path.{◌≡◌, refl, sym, ap, ap₂, ◌∙◌}
use lib.ListN.{length, drop}
use Rattle.paper.specs.Units.{Text, Room}
use Rattle.paper.specs.Rows.{Tables}
use Rattle.paper.specs.Refusals.{Outcome, refused, accepted, ◌>>=◌}
use Rattle.paper.specs.Answer.{Answer, tables_of, handed_back}
use Rattle.paper.specs.Tables.{Admitted}
use Rattle.paper.proofs.Demands.{tables_sound, tables_admitted, tables_room}
use Rattle.paper.proofs.Outcomes.{Sound}
use Rattle.tables.specs.Held.{held_tables}
use Rattle.sheet.specs.Whole.{held_sheet}
use Rattle.tables.specs.declared.Tables as held
use Rattle.answers.specs.Refusals.{number_of, refusal}
use Rattle.answers.specs.declared.Refused.{Refused}
use Rattle.answers.proofs.Refusals.{number_back}
use Rattle.std.proofs.Common.{Result, Ok, Err}
use Rattle.lines.specs.Written.{Place, Wrote}

module _ (room : Room) (sheet : Text) {read : Result held.Tables Refused} (is : read ≡ held_sheet (tables_of room sheet)) where
  -- A refusal: the paper's number and line, whatever would come of the tables, and both are small
  pub record Stopped (f : Refused) : Type 0 where
    pub small : (number_of f.refusal ≤ 12) × (f.line ≤ 65_535)
    pub answers : (next : Tables → Answer) → (tables_of room sheet >>= next) ≡ refused (number_of f.refusal) f.line

  pub stopped : {f : Refused} → read ≡ Err f → Stopped f
  stopped {f} k = go (tables_of room sheet) refl (tables_sound room sheet) (sym is ∙ k)
    where
      go : (o : Outcome Tables) → tables_of room sheet ≡ o → Sound 65_536 o → held_sheet (tables_of room sheet) ≡ Err f → Stopped f
      go (refused number line) e s k =
          let same : record { refusal = refusal number; line = line } ≡ f = let both : Err (record { refusal = refusal number; line = line }) ≡ Err f = sym (ap held_sheet e) ∙ k in cc in
          let back : number_of (refusal number) ≡ number = number_back number (omega (arith, s.0)) (omega (arith, s.1)) in
          let the_number : number_of f.refusal ≡ number = ap (λ (f : Refused). number_of f.refusal) (sym same) ∙ back in
          let the_line : f.line ≡ line = ap (λ (f : Refused). f.line) (sym same) in
          record {
            small = (omega (arith, the_number, s.1), omega (arith, the_line, s.2));
            answers = λ next. ap (λ (o : Outcome Tables). o >>= next) e ∙ ap₂ (λ (n l : ℕ). refused n l) (sym the_number) (sym the_line);
          }
      go (accepted t) e s k = let both : Ok (held_tables t) ≡ Err f = sym (ap held_sheet e) ∙ k in cc

  -- Accepted: the paper's tables, of which those at hand are what the code holds; the buffer has room; and what comes of the tables
  pub record Accepted (tables : held.Tables) : Type 0 where
    pub paper : Tables
    pub held : tables ≡ held_tables paper
    pub admitted : Admitted paper
    pub roomy : 32_768 ≤ room
    pub answers : (next : Tables → Answer) → (tables_of room sheet >>= next) ≡ next paper

  pub is_accepted : {tables : held.Tables} → read ≡ Ok tables → Accepted tables
  is_accepted {tables} k = go (tables_of room sheet) refl (sym is ∙ k)
    where
      go : (o : Outcome Tables) → tables_of room sheet ≡ o → held_sheet (tables_of room sheet) ≡ Ok tables → Accepted tables
      go (refused number line) e k = let both : Err (record { refusal = refusal number; line = line }) ≡ Ok tables = sym (ap held_sheet e) ∙ k in cc
      go (accepted t) e k =
          let both : Ok tables ≡ Ok (held_tables t) = sym k ∙ ap held_sheet e in
          record {
            paper = t;
            held = cc;
            admitted = (tables_admitted room sheet t e).0;
            roomy = tables_room room sheet t e;
            answers = λ next. ap (λ (o : Outcome Tables). o >>= next) e;
          }

-- A text written at the buffer's start is what an accepted answer hands back
pub hands_back : (text buffer : Text) {next : Place} {after : Text} → Wrote text 0 buffer next after
    → ◌≡◌ {A = ℕ × Text} (next, after) (handed_back (accepted text) buffer)
hands_back text buffer w =
    ap₂ (λ (n : ℕ) (b : Text). (n, b)) w.0 w.1 ∙ ap (λ (n : ℕ). (n, text ++ drop n buffer)) (zero-add (length text))
