-- `head::date_row` meets its contract: its first field is the letter, and its second is read as a date and as a day.
use Rattle.std.proofs.Common.{◌≡◌, ◌≢◌, ◌++◌, ◌∷◌, [], ◌≤◌, length, sym, ap, ◌∙◌, arith, rules, Bor, Option, Some, None, Ok, Err}
use Rattle.std.specs.Option.{MatchOption}
use Rattle.std.proofs.lemmas.Slice.Eq.{strip_suffix_is}
use Rattle.std.proofs.lemmas.Bool.Decides.{Decides-eqb}
use Rattle.paper.specs.Units.{Text}
use Rattle.paper.specs.Text.{ascii, LF}
use Rattle.places.specs.Places.{Place}
use Rattle.places.proofs.Places.{ended_most}
use Rattle.answers.specs.declared.Refusal.TheVariants.{Row, Date}
use Rattle.head.specs.Fields.{handed_out, behind_field, two_fields}
use Rattle.head.proofs.Row.{letter_there, date_there, formed, not_formed, told_late, told_none, told_some}
use Rattle.head.proofs.date_row.Goals as goal

-- A field without its LF, or that it has none
module _ {field text : Text} (is : text ≡ field) {o : Option (Bor Text)}
    (stripped : MatchOption o ((front : Text) → field ≢ front ++ (LF ∷ [])) (λ x. field ≡ x.now ++ (LF ∷ []))) where
  dated : {x : Bor Text} → o ≡ Some x → text ≡ x.now ++ (LF ∷ [])
  dated e = is ∙ rw e at stripped

  undated : o ≡ None → (front : Text) → text ≡ front ++ (LF ∷ []) → ⊥
  undated e front k = (rw e at stripped) front (sym is ∙ k)

pub invariant_of-reader : goal.invariant_of-reader
invariant_of-reader c =
    let long : 6 ≤ length c.args.s.now = omega (arith, ended_most c.args.s.now) in
    record { within = long }

pub returns-then-ne : goal.returns-then-ne
returns-then-ne c =
    let other : handed_out c.args.s.now 6 ≢ ascii "D;" = search rules in
    not_formed c.args.s.now (λ form. other (letter_there c.args.s.now (formed c.args.s.now c.requires form)))

pub returns-in_err-text : goal.returns-in_err-text
returns-in_err-text c =
    let s = c.args.s.now in
    let is : handed_out s (behind_field s 6) ≡ c.next-2.result.now = search rules in
    let none : c.strip_suffix.result ≡ None = search rules in
    let e : c.from_residual.result ≡ Err Row = search rules in
    let k = strip_suffix_is Decides-eqb _ (LF ∷ []) _ c.strip_suffix.ensures.cases in
    e ∙ not_formed s (λ form. let l = formed s c.requires form in undated is k none l.date (date_there s l))

pub returns-then-date-gt-LAST_DATE : goal.returns-then-date-gt-LAST_DATE
returns-then-date-gt-LAST_DATE c =
    let s = c.args.s.now in
    let letter : handed_out s 6 ≡ ascii "D;" = search rules in
    let is : handed_out s (behind_field s 6) ≡ c.next-2.result.now = search rules in
    let some : c.strip_suffix.result ≡ Some c.in_ok-text.text = search rules in
    told_late s _ letter (dated is (strip_suffix_is Decides-eqb _ (LF ∷ []) _ c.strip_suffix.ensures.cases) some) (omega arith)

pub returns-in_err-day : goal.returns-in_err-day
returns-in_err-day c =
    let s = c.args.s.now in
    let letter : handed_out s 6 ≡ ascii "D;" = search rules in
    let is : handed_out s (behind_field s 6) ≡ c.next-2.result.now = search rules in
    let some : c.strip_suffix.result ≡ Some c.in_ok-text.text = search rules in
    let none : c.day_of.result ≡ None = search rules in
    let e : c.from_residual-in_err-day.result ≡ Err Date = search rules in
    e ∙ told_none s _ letter (dated is (strip_suffix_is Decides-eqb _ (LF ∷ []) _ c.strip_suffix.ensures.cases) some) (sym (rw c.date-date.ensures at c.day_of.ensures) ∙ none)

pub returns : goal.returns
returns c =
    let s = c.args.s.now in
    let letter : handed_out s 6 ≡ ascii "D;" = search rules in
    let is : handed_out s (behind_field s 6) ≡ c.next-2.result.now = search rules in
    let some : c.strip_suffix.result ≡ Some c.in_ok-text.text = search rules in
    let at : c.next-2.new.self.at ≡ two_fields s 6 = search rules in
    let day : c.day_of.result ≡ Some c.in_ok-day.day = search rules in
    ap (λ (p : Place). Ok (c.in_ok-day.day, p)) at
    ∙ told_some s _ letter (dated is (strip_suffix_is Decides-eqb _ (LF ∷ []) _ c.strip_suffix.ensures.cases) some) (omega arith) (sym (rw c.date-date.ensures at c.day_of.ensures) ∙ day)
