-- `shown::show` meets its contract: what the number of the report tells.
use native.Mathlib.Omega.{arith}
use mathlib.Core.Path.{refl, ◌∙◌}
use lib.ListN.{length}
use Rattle.paper.specs.Units.{Text}
use Rattle.paper.specs.Report.{Listing, report_of}
use Rattle.paper.specs.Answer.{answer_by, accepted}
use Rattle.paper.specs.Demands.{IsAnswer}
use Rattle.paper.proofs.Lengths.{report_fits}
use Rattle.paper.proofs.Demands.{gives_answer, goes_on}
use Rattle.shown.proofs.Answers.{tellable, shown}
use Rattle.shown.proofs.show.Goals as goal

-- The kit's answer is one
is_answered : (sheet out : Text) (full : Listing) → IsAnswer 13 (answer_by full (length out) sheet)
is_answered sheet out full = goes_on 13 (omega arith) (length out) sheet (λ t. accepted (report_of full t)) (report_fits full)

pub tell-requires : goal.tell-requires
tell-requires c =
    let is = is_answered c.args.sheet.now c.args.out.now c.args.full in
    tellable _ is c.args.out.now c.requires (c.ask-number.ensures ∙ gives_answer c.args.full c.args.sheet.now c.args.out.now _ refl)

pub returns : goal.returns
returns c =
    let is = is_answered c.args.sheet.now c.args.out.now c.args.full in
    let s = shown _ is c.args.out.now c.requires (c.ask-number.ensures ∙ gives_answer c.args.full c.args.sheet.now c.args.out.now _ refl) c.tell.ensures in
    record { written = s.0; prefix = s.1 }
