-- `places::ended` meets its contract. The loop's invariant: from `i` on no byte is an LF.
use Prim.Native.Nat.{ℕ, ◌+◌, ◌-◌, ◌≤◌, ◌<◌}
use native.Mathlib.Omega.{arith}
use mathlib.Core.Path.{◌≡◌, sym, ap, ◌∙◌}
use lib.ListN.{length, get_or}
use Rattle.paper.specs.Units.{Text}
use Rattle.paper.specs.Text.{LF}
use Rattle.places.specs.Places.{ended_length}
use Rattle.places.proofs.Places.{ended_none, ended_last}
use Rattle.places.proofs.ended.Invariants.{Clear}
use Rattle.places.proofs.ended.Goals as goal

-- The byte before is an LF, or none either
module _ (s : Text) (i : ℕ) (clear : Clear s i) where
  found : 0 < i → i ≤ length s → get_or s (i - 1) 0 ≡ LF → i - 1 + 1 ≡ ended_length s
  found low high e = ended_last s (i - 1) (omega arith) e (λ k l. clear k (omega arith))

  passed : (get_or s (i - 1) 0 ≡ LF → ⊥) → Clear s (i - 1)
  passed other k low high e =
      let apart : k ≡ i - 1 → ⊥ = λ same. other (ap (λ (k : ℕ). get_or s k 0) (sym same) ∙ e) in
      clear k (omega arith) high e

pub returns-then-s-i-eq10 : goal.returns-then-s-i-eq10
returns-then-s-i-eq10 c =
    let l = c.loop-i in
    found c.args.s.now l.i l.invariant (omega arith) (omega arith) c.if-s-i-eq10.true

pub loop-i-preserved : goal.loop-i-preserved
loop-i-preserved c =
    let l = c.loop-i in
    passed c.args.s.now l.i l.invariant c.if-s-i-eq10.false

pub returns : goal.returns
returns c =
    let l = c.loop-i in
    ended_none c.args.s.now (λ k. l.invariant k (omega arith))
