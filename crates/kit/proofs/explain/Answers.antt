-- `kit::explain` meets its contract: each way out gives the number and the buffer of the paper's explainer.
use Prim.Native.Nat.{ℕ, ◌≤◌}
use native.Mathlib.Omega.{arith}
use mathlib.Core.Bool.{true, false}
use mathlib.Core.Path.{◌≡◌, sym, ap, ◌∙◌, subst, subst⁻¹}
use Rattle.std.proofs.Common.{is_some}
use lib.ListN.{length}
use Rattle.paper.specs.Units.{Text, Class}
use Rattle.paper.specs.Rows as paper
use Rattle.paper.specs.Refusals.{refused, accepted, judged}
use Rattle.paper.specs.Explanation.{explanation_of, explanation_text}
use Rattle.paper.specs.Answer.{Answer, tables_of, has_both, ask_rules, explainer}
use Rattle.paper.proofs.Lengths.{explanation_fits}
use Rattle.paper.proofs.Reasons.{explainer_answer}
use Rattle.sheet.specs.Whole.{held_sheet}
use Rattle.answers.specs.Refusals.{number_of}
use Rattle.answers.specs.declared.Refused.{Refused}
use Rattle.std.proofs.Common.{Result, Ok, Err, Option, Some, None}
use Rattle.kit.specs.Numbers.{number_given}
use Rattle.tables.specs.Held.{held_tables}
use Rattle.tables.specs.declared.Tables.{Tables}
use Rattle.lines.specs.Written.{Place, Wrote}
use Rattle.reasons.specs.Texts.{asked_of, reason_text, Explainable}
use Rattle.reasons.proofs.Paper.{asked_there, asked_stands, explainable_held, text_held}
use Rattle.kit.proofs.Answers.{stopped, Accepted, is_accepted, hands_back}
use Rattle.kit.proofs.explain.Goals as goal

-- What was read of a sheet, for a lent buffer and a question
module _ (sheet buffer currency : Text) (class : Class) {read : Result Tables Refused} (is : read ≡ held_sheet (tables_of (length buffer) sheet)) where
  -- What comes of the tables: the explanation, where they have the currency and the class
  abbrev next : paper.Tables → Answer
  next t = judged 0 (explanation_text (explanation_of t currency class)) (ask_rules t currency class)

  refuses : {f : Refused} → read ≡ Err f → ◌≡◌ {A = ℕ × Text} (number_given (Err f), buffer) (explainer currency class sheet buffer)
  refuses {f} k =
      sym (explainer_answer currency class sheet buffer (refused (number_of f.refusal) f.line) ((stopped (length buffer) sheet is k).answers next))

  -- The sheet is accepted
  module _ {known : Tables} (goes : read ≡ Ok known) where
    accepts : Accepted (length buffer) sheet is known
    accepts = is_accepted (length buffer) sheet is goes

    abbrev tables : paper.Tables
    tables = accepts.paper

    module _ {asked : Option ℕ} (asked_is : asked ≡ asked_of known currency class) where
      -- What is found is what the paper's tables have
      found_is : asked_of (held_tables tables) currency class ≡ asked
      found_is = sym (asked_is ∙ ap (λ (t : Tables). asked_of t currency class) accepts.held)

      -- Both are there exactly where the sheet has them
      there_is : is_some asked ≡ has_both tables currency class
      there_is = ap is_some (sym found_is) ∙ asked_there tables accepts.admitted currency class

      lacks : asked ≡ None → ◌≡◌ {A = ℕ × Text} (851_968, buffer) (explainer currency class sheet buffer)
      lacks e =
          let none : has_both tables currency class ≡ false = sym there_is ∙ ap is_some e in
          sym (explainer_answer currency class sheet buffer (refused 13 0) (accepts.answers next ∙ rw (none, judged)))

      -- The sheet has both
      module _ {rank : ℕ} (there : asked ≡ Some rank) where
        both : has_both tables currency class ≡ true
        both = sym there_is ∙ ap is_some there

        stands : asked_of (held_tables tables) currency class ≡ Some rank
        stands = found_is ∙ there

        -- The text is the explanation's
        text_is : reason_text known rank class ≡ explanation_text (explanation_of tables currency class)
        text_is =
            ap (λ (t : Tables). reason_text t rank class) accepts.held
            ∙ text_held tables accepts.admitted rank currency (asked_stands tables accepts.admitted currency class stands) class

        -- It can be written
        explainable : Explainable known rank class
        explainable =
            subst⁻¹ (λ (t : Tables). Explainable t rank class) accepts.held (explainable_held tables accepts.admitted currency class stands)

        room : length (reason_text known rank class) ≤ length buffer
        room = omega (arith, ap length text_is, explanation_fits tables accepts.admitted currency class, accepts.roomy)

        answers : (written : Place) (after : Text) → Wrote (reason_text known rank class) 0 buffer written after
            → ◌≡◌ {A = ℕ × Text} (written, after) (explainer currency class sheet buffer)
        answers written after w =
            let text = explanation_text (explanation_of tables currency class) in
            hands_back text buffer (subst (λ (t : Text). Wrote t 0 buffer written after) text_is w)
            ∙ sym (explainer_answer currency class sheet buffer (accepted text) (accepts.answers next ∙ rw (both, judged)))

pub returns-in-Err-clause-answer : goal.returns-in-Err-clause-answer
returns-in-Err-clause-answer c = refuses c.args.sheet.now c.args.report.now c.args.currency.now c.args.class c.read_sheet.ensures c.in-Err.is

pub returns-in-Err-clause-small : goal.returns-in-Err-clause-small
returns-in-Err-clause-small c = (stopped (length c.args.report.now) c.args.sheet.now c.read_sheet.ensures c.in-Err.is).small.1

pub returns-in_default-clause-answer : goal.returns-in_default-clause-answer
returns-in_default-clause-answer c =
    lacks c.args.sheet.now c.args.report.now c.args.currency.now c.args.class c.read_sheet.ensures c.in-Ok.is c.asked.ensures c.in_default.is

pub write-requires-clause-explainable : goal.write-requires-clause-explainable
write-requires-clause-explainable c =
    explainable c.args.sheet.now c.args.report.now c.args.currency.now c.args.class c.read_sheet.ensures c.in-Ok.is c.asked.ensures c.in-Some.is

pub write-requires-clause-room : goal.write-requires-clause-room
write-requires-clause-room c =
    room c.args.sheet.now c.args.report.now c.args.currency.now c.args.class c.read_sheet.ensures c.in-Ok.is c.asked.ensures c.in-Some.is

pub returns-in-Some-clause-answer : goal.returns-in-Some-clause-answer
returns-in-Some-clause-answer c =
    answers c.args.sheet.now c.args.report.now c.args.currency.now c.args.class c.read_sheet.ensures c.in-Ok.is c.asked.ensures c.in-Some.is
    c.write.result c.write.new.report c.write.ensures
