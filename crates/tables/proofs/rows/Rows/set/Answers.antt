-- `Rows::set` meets its contract: the row is one of those in front, so that blanks stand behind them as before.
use native.Mathlib.Omega.{arith}
use mathlib.Core.Path.{ap}
use Rattle.std.proofs.lemmas.List.{length-take-le}
use lib.Seq.{take-set-lt}
use Rattle.arrayvec.specs.ArrayVec.{array_vec_len}
use Rattle.tables.proofs.Padded.{filled_set}
use Rattle.tables.proofs.rows.Rows.set.Goals as goal

pub invariant_of-self : goal.invariant_of-self
invariant_of-self g c =
    let v = c.self.inside in
    filled_set g.row.CAP v.count c.args.index g.T.Blank.blank c.args.row v.places c.self.invariant
    (omega (arith, ap array_vec_len c.self.view_is, length-take-le v.count v.places c.self.invariant.0))

pub returns : goal.returns
returns g c =
    let v = c.self.inside in
    rw (← c.self.view_is)
    (take-set-lt v.count v.places c.args.index c.args.row (omega (arith, ap array_vec_len c.self.view_is, length-take-le v.count v.places c.self.invariant.0)))
