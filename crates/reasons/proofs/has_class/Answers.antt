-- `reasons::has_class` meets its contract: up to 40 it tells which classes are known, and above that the invariant has it.
use Rattle.std.proofs.Common.{arith, ap, ◌∙◌}
use Rattle.paper.specs.Refusals.{has_class}
use Rattle.tables.specs.Back.{paper_classes}
use Rattle.priorities.proofs.Turns.{known_at}
use Rattle.reasons.proofs.has_class.Goals as goal

pub returns : goal.returns
returns c =
    let cs = paper_classes c.args.classes.now in
    rw c.known_classes-known.ensures (known_at 41 0 c.args.class cs (omega (arith, c.if-class-gt40.false)) ∙ ap (has_class cs) (omega arith))
