-- `head::Reader::next` meets its contract: the field stands in the sheet.
use Rattle.std.proofs.Common.{◌+◌, ◌≤◌, length, arith}
use Rattle.std.proofs.lemmas.List.{take_rest}
use Rattle.head.proofs.Fields.{handed_within}
use Rattle.head.proofs.Reader.next.Goals as goal

pub overflow_add-self : goal.overflow_add-self
overflow_add-self c =
    let whole = take_rest c.args.self.now.sheet.now c.args.self.now.at in
    omega (arith, rw whole at c.field_length-size.ensures, handed_within c.args.self.now.sheet.now c.args.self.now.at c.args.self.now.within)

pub invariant_of-self : goal.invariant_of-self
invariant_of-self c =
    let whole = take_rest c.args.self.now.sheet.now c.args.self.now.at in
    let within : c.args.self.now.at + c.field_length-size.result ≤ length c.args.self.now.sheet.now =
    omega (arith, rw whole at c.field_length-size.ensures, handed_within c.args.self.now.sheet.now c.args.self.now.at c.args.self.now.within)
    in
    record { within = within }
