-- `Rows::at` meets its contract: a row stands in its place, in front of the blanks.
use native.Mathlib.Omega.{arith}
use mathlib.Core.Path.{sym, ◌∙◌}
use lib.ListN.{take}
use Rattle.std.proofs.lemmas.List.{length-take-le, get_or-take, get_or_default, get_or_past}
use Rattle.tables.proofs.rows.Rows.at.Goals as goal

pub returns-then-index-self : goal.returns-then-index-self
returns-then-index-self g c =
    let v = c.self.inside in
    rw (← c.self.view_is)
    (get_or_default v.places c.args.index c.index-self-index.result g.T.Blank.blank (omega (arith, c.self.invariant.0, c.if-index-self.true))
    ∙ sym (get_or-take v.count v.places c.args.index g.T.Blank.blank c.if-index-self.true))

pub returns-else-index-self : goal.returns-else-index-self
returns-else-index-self g c =
    let v = c.self.inside in
    rw (← c.self.view_is)
    (c.blank.ensures
    ∙ sym (get_or_past (take v.count v.places) c.args.index g.T.Blank.blank (omega (arith, length-take-le v.count v.places c.self.invariant.0, c.if-index-self.false))))
