-- `days::is_closing` meets its contract: the day after Easter is of the 400 years and few days.
use Rattle.std.proofs.Common.{◌<◌, arith}
use Rattle.paper.proofs.Calendar.{easter_below}
use Rattle.days.proofs.is_closing.Goals as goal

pub overflow_add-sunday : goal.overflow_add-sunday
overflow_add-sunday c =
    let below : c.easter-sunday.result < 146_132 = rw c.easter-sunday.ensures (easter_below c.args.y c.requires) in
    omega arith
