-- `tables::ranked` meets its contract: after the last turn those before `rank` come before the one looked for, and the one there
-- does not.
use native.Mathlib.Omega.{arith}
use Rattle.tables.proofs.ranked.Invariants.{ranked_there, ranked_new}
use Rattle.tables.proofs.ranked.Goals as goal
use Rattle.tables.proofs.ranked.Goals.{else-rank-numbers-via-then-rank-numbers+else-numbers-rank, else-rank-numbers-via-else-rank-numbers}

pub returns-then-numbers-rank : goal.returns-then-numbers-rank
returns-then-numbers-rank c = ranked_there _ _ c.loop-number.invariant (omega arith) c.if-rank-numbers.true c.if-numbers-rank.true

pub returns-else-rank-numbers : goal.returns-else-rank-numbers
returns-else-rank-numbers c =
    ranked_new _ _ c.loop-number.invariant (omega arith)
    (elim c.else-rank-numbers.branch [
      | else-rank-numbers-via-then-rank-numbers+else-numbers-rank w ↦ λ h e. w.if-numbers-rank.false e
      | else-rank-numbers-via-else-rank-numbers w ↦ λ h e. absurd (omega (arith, h, w.if-rank-numbers.false))
    ])
