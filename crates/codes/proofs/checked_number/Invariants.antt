-- `codes::checked_number` meets its contract. The loop's invariant: the bytes that are left, read on from the number and the
-- two sums so far, give the answer. The number is below a power of 43, and no sum above 18 for each byte, so that nothing
-- overflows.
use Rattle.codes.proofs.Checks.{Read}
use Rattle.codes.proofs.checked_number.Given as goal

abbrev pub invariant-loop-b : goal.invariant-loop-b
invariant-loop-b l = Read l.text l.n l.counts l.b-index
