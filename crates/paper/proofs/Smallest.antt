-- On one line the smallest number is given.
use Prim.Native.Nat.{◌<◌}
use native.Mathlib.Omega.{arith}
use mathlib.Core.Bool.{Bool, true, false, ◌&&◌}
use mathlib.Core.List.{List, [], ◌∷◌}
use mathlib.Core.Option.{Option, none, some}
use mathlib.Core.Path.{◌≡◌, refl, ◌∙◌}
use borrow.Author.Tests.{leb-true, eq-eqb, ne_eqb}
use lib.Dec.{leb, eqb}
use lib.ListN.{length, drop}
use Rattle.paper.specs.Units.{Number, Line}
use Rattle.paper.specs.Lists.{first_that, given}
use Rattle.paper.specs.Text.{lines}
use Rattle.paper.specs.Refusals.{Outcome, refused, accepted, Rule, judged, RowKind, rules_of, date_kind, class_kind, priority_kind, security_kind, trade_kind}
use Rattle.paper.specs.Sheet.{begins, header_rules}
use Rattle.paper.specs.Answer.{room_rules}
use Rattle.paper.specs.Demands.{breaks, Smallest, RowSmallest, SmallestNumber}
use Rattle.paper.proofs.Lists.{both}

-- Whether no rule's number is below a lowest, nor below that of the rule before it
abbrev rise : Number → List Rule → Bool
rise lowest [] = true
rise lowest (rule ∷ rules) = leb lowest rule.0 && rise rule.0 rules

-- A rule of another number is passed over
other_number : (n number : Number) (holds : Bool) (rules : List Rule) → eqb number n ≡ false
    → breaks n ((number, holds) ∷ rules) ≡ breaks n rules
other_number n number holds rules e = rw (e, first_that)

-- ... and so is a rule that holds
holding : (n number : Number) (rules : List Rule) → breaks n ((number, true) ∷ rules) ≡ breaks n rules
holding n number rules = go (eqb number n) refl
  where
    go : (b : Bool) → eqb number n ≡ b → breaks n ((number, true) ∷ rules) ≡ breaks n rules
    go true e = rw (e, first_that)
    go false e = rw (e, first_that)

-- Rules that rise break no number below the lowest
none_below : (lowest n : Number) (rules : List Rule) → rise lowest rules ≡ true → n < lowest → breaks n rules ≡ false
none_below lowest n [] e l = refl
none_below lowest n ((number, holds) ∷ rules) e l =
    let h = both (leb lowest number) (rise number rules) e in
    let low = leb-true lowest number h.0 in
    other_number n number holds rules (ne_eqb number n (λ equal. omega (arith, equal)))
    ∙ none_below number n rules h.1 (omega arith)

-- A rule that holds changes nothing of what the others make
after_holding : {A : Type 0} (at : Line) (number : Number) (rules : List Rule) (o : Outcome A) → Smallest at rules o
    → Smallest at ((number, true) ∷ rules) o
after_holding at number rules (refused m line) (on, broken, smaller) =
    (on, holding m number rules ∙ broken, λ n l. holding n number rules ∙ smaller n l)
after_holding at number rules (accepted a) all = λ n. holding n number rules ∙ all n

-- A rule that fails is the refusal, before others that rise
failing : (A : Type 0) (at : Line) (number : Number) (rules : List Rule) → rise number rules ≡ true
    → Smallest {A = A} at ((number, false) ∷ rules) (refused number at)
failing A at number rules e = (
  refl,
  rw (eq-eqb number number refl, first_that),
  λ n l. other_number n number false rules (ne_eqb number n (λ equal. omega (arith, equal))) ∙ none_below number n rules e l,
)

-- So rules that rise are judged by the smallest number
judged_smallest : {A : Type 0} (at : Line) (a : A) (lowest : Number) (rules : List Rule) → rise lowest rules ≡ true
    → Smallest at rules (judged at a rules)
judged_smallest at a lowest [] e = λ n. refl
judged_smallest at a lowest ((number, true) ∷ rules) e =
    after_holding at number rules (judged at a rules)
    (judged_smallest at a number rules (both (leb lowest number) (rise number rules) e).1)
judged_smallest {A} at a lowest ((number, false) ∷ rules) e = failing A at number rules (both (leb lowest number) (rise number rules) e).1

-- ... and so is a row whose rules rise from 6 on: 5 and the form of its fields come before them
row_smallest : {R : Type 0} (kind : RowKind R) → ((above : List R) (r : R) → rise 6 (rules_of kind above r) ≡ true) → RowSmallest kind
row_smallest {R} kind rising above at fs = go (begins kind.letter fs && eqb (length fs) kind.many) (kind.read fs)
  where
    behind : Option R → List Rule
    behind o = elim o [ none ↦ [] | some r ↦ rules_of kind above r ]

    up : (o : Option R) → rise 6 (behind o) ≡ true
    up none = refl
    up (some r) = rising above r

    go : (form : Bool) (o : Option R)
        → Smallest {A = R} at ((5, form) ∷ (6, given o) ∷ behind o)
        (elim form [ false ↦ refused 5 at | true ↦ elim o [ none ↦ refused 6 at | some r ↦ judged at r (rules_of kind above r) ] ])
    go false o = failing R at 5 ((6, given o) ∷ behind o) (up o)
    go true none = after_holding {A = R} at 5 ((6, false) ∷ []) (refused 6 at) (failing R at 6 [] refl)
    go true (some r) =
        let rules = rules_of kind above r in
        after_holding at 5 ((6, true) ∷ rules) (judged at r rules)
        (after_holding at 6 rules (judged at r rules) (judged_smallest at r 6 rules (rising above r)))

-- The rules of document 01 rise, those of each row kind too
pub smallest_number : SmallestNumber
smallest_number = (
  λ room sheet. judged_smallest 0 sheet 1 (room_rules room sheet) refl,
  λ sheet. judged_smallest 1 (2, lines (drop 6 sheet)) 3 (header_rules sheet) refl,
  row_smallest date_kind (λ above d. refl),
  row_smallest class_kind (λ above c. refl),
  λ cs. row_smallest (priority_kind cs) (λ above o. refl),
  λ cs. row_smallest (security_kind cs) (λ above s. refl),
  λ today periods. row_smallest (trade_kind today periods) (λ above t. refl),
)
