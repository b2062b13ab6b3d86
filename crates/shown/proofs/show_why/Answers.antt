-- `shown::show_why` meets its contract: what the number of the explanation tells.
use mathlib.Core.Path.{refl, ◌∙◌}
use lib.ListN.{length}
use Rattle.paper.proofs.Reasons.{explainer_answer, is_explained}
use Rattle.shown.proofs.Answers.{tellable, shown}
use Rattle.shown.proofs.show_why.Goals as goal

pub tell-requires : goal.tell-requires
tell-requires c =
    let is = is_explained (length c.args.out.now) c.args.sheet.now c.args.currency.now c.args.class in
    tellable _ is c.args.out.now c.requires (c.brm_explain-number.ensures ∙ explainer_answer c.args.currency.now c.args.class c.args.sheet.now c.args.out.now _ refl)

pub returns : goal.returns
returns c =
    let is = is_explained (length c.args.out.now) c.args.sheet.now c.args.currency.now c.args.class in
    let s = shown _ is c.args.out.now c.requires (c.brm_explain-number.ensures ∙ explainer_answer c.args.currency.now c.args.class c.args.sheet.now c.args.out.now _ refl) c.tell.ensures in
    record { written = s.0; prefix = s.1 }
