-- `securities::with_ranks` meets its contract. The loop's invariant: the rows before `i` have the places of their currencies.
use Prim.Native.Nat.{ℕ}
use native.Mathlib.Numerals.{add-one}
use native.Mathlib.Omega.{arith}
use mathlib.Core.List.{List}
use mathlib.Core.Logic.{◌⊎◌, ⊎_elim}
use mathlib.Core.Path.{◌≡◌, sym, ap, ◌∙◌}
use lib.ListN.{length, get_or}
use lib.Seq.{take_all}
use Rattle.std.proofs.lemmas.List.{length-set}
use Rattle.std.proofs.Common.{Result, Ok, Err}
use Rattle.tables.specs.Blanks.{no_security}
use Rattle.tables.specs.Ranks.{rank_of}
use Rattle.tables.proofs.Over.{over_more}
use Rattle.tables.proofs.Ranks.{rank_most}
use Rattle.securities.specs.Ranks.{ranked_security, with_rank}
use Rattle.securities.proofs.with_ranks.Goals as goal
use Rattle.securities.proofs.with_ranks.Goals.{in-Ok, in-Ok-2}

-- The rank, whether it stands there or would
either : {r : Result ℕ ℕ} {rank : ℕ} → (r ≡ Ok rank) ⊎ (r ≡ Err rank) → rank ≡ rank_of r
either = ⊎_elim (λ e. ap rank_of (sym e)) (λ e. ap rank_of (sym e))

pub overflow_cast-row : goal.overflow_cast-row
overflow_cast-row c =
    let a = c.args in
    let rank : c.match-ranked.rank ≡ rank_of c.ranked.result =
    elim c.match-ranked.branch [ in-Ok w ↦ w.rank-is ∙ either w.in-Ok.is | in-Ok-2 w ↦ w.rank-is ∙ either w.in-Ok.is ] in
    omega (arith, rank, ap rank_of c.ranked.ensures, rank_most (get_or a.money.now c.loop-i.i 0) a.currencies.now)

pub bounds-as_slice-i : goal.bounds-as_slice-i
bounds-as_slice-i c = omega (arith, ap length c.as_slice.ensures.value, c.loop-i.invariant.0, c.requires.0)

pub offset_bounds-as_slice-i : goal.offset_bounds-as_slice-i
offset_bounds-as_slice-i c =
    omega (arith, ap length c.as_slice.ensures.value, c.as_slice.ensures.fits, c.loop-i.invariant.0, c.requires.0)

pub set-requires : goal.set-requires
set-requires c = (omega arith, omega (arith, c.loop-i.invariant.0, c.requires.0))

pub loop-i-preserved : goal.loop-i-preserved
loop-i-preserved c =
    let a = c.args in
    let rank : c.match-ranked.rank ≡ rank_of c.ranked.result =
    elim c.match-ranked.branch [ in-Ok w ↦ w.rank-is ∙ either w.in-Ok.is | in-Ok-2 w ↦ w.rank-is ∙ either w.in-Ok.is ] in
    let row = over_more (ranked_security a.currencies.now) a.money.now a.rows.now.items c.loop-i.i 0 no_security (omega arith) (omega (arith, c.requires.0)) in (
      ap length c.set.ensures ∙ length-set c.loop-i.rows.items c.loop-i.i _ ∙ c.loop-i.invariant.0,
      rw (c.set.ensures, c.as_slice.ensures.value, rank, c.ranked.ensures, c.loop-i.invariant.1, add-one c.loop-i.i) row,
    )

pub returns : goal.returns
returns c =
    let a = c.args in
    c.loop-i.invariant.1 ∙ ap (λ (ms : List ℕ). with_rank a.currencies.now ms a.rows.now.items) (take_all c.loop-i.i a.money.now (omega arith))
