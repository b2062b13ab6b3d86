-- `days::day_in` meets its contract: the sum fits, since its date is real.
use Rattle.std.proofs.Common.{arith, w64}
use borrow.Author.Rules.{Fits-under}
use Rattle.paper.proofs.Days.{real, day_in_below}
use Rattle.days.proofs.day_in.Goals as goal

-- The sum is a day of the 400 years
pub overflow_add-result-2 : goal.overflow_add-result-2
overflow_add-result-2 c =
    let a = c.args in
    Fits-under w64 _ 146_097
    (rw (c.new_year.ensures, c.days_before.ensures) (day_in_below a.y a.month a.day (real a.y a.month a.day c.requires)))
    tt

pub overflow_add-result : goal.overflow_add-result
overflow_add-result c = omega (arith, overflow_add-result-2 c)
