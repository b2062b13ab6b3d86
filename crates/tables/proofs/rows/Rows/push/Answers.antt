-- `Rows::push` meets its contract: behind the rows, with the new one, stand blanks.
use native.Mathlib.Omega.{arith}
use mathlib.Core.Path.{ap}
use Rattle.std.proofs.lemmas.List.{length-take-le}
use Rattle.arrayvec.specs.ArrayVec.{array_vec_len}
use Rattle.tables.proofs.Padded.{filled_more}
use Rattle.tables.proofs.rows.Rows.push.Goals as goal

pub invariant_of-self : goal.invariant_of-self
invariant_of-self g c =
    let v = c.self.inside in
    filled_more g.row.CAP v.count g.T.Blank.blank c.args.row v.places c.self.invariant
    (omega (arith, ap array_vec_len c.self.view_is, length-take-le v.count v.places c.self.invariant.0))
