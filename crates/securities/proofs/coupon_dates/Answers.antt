-- `securities::coupon_dates` meets its contract: the days are there, and the second follows the first or does not.
use mathlib.Core.Bool.{Bool}
use mathlib.Core.Path.{ap, ap₂, ◌∙◌}
use Rattle.std.specs.Bool.{then_some}
use Rattle.paper.specs.Days.{day_of}
use Rattle.paper.specs.Text.{date_in}
use Rattle.paper.specs.Units.{Text}
use Rattle.answers.specs.Options.{answer}
use Rattle.sections.proofs.Reading.{spanned}
use Rattle.securities.proofs.Row.{followed}
use Rattle.securities.proofs.coupon_dates.Goals as goal

pub returns : goal.returns
returns c =
    c.then_some.ensures ∙ ap (λ (t : Bool). then_some t (c.in_ok-previous.previous, c.in_ok-next.next)) c.follows.ensures
    ∙ followed _ _ c.in_ok-previous.ensures c.in_ok-next.ensures
    ∙ ap₂ (λ (t u : Text). answer (spanned 400 (day_of (date_in t)) (day_of (date_in u)))) c.field.ensures c.field-2.ensures
