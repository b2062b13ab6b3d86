-- `tables::find` meets its contract. The loop's invariant: all codes before `low` are below the code, and none is from the last of
-- the next `size` on, of which there are a power of four. The measure is `size`.
use Prim.Native.Nat.{ℕ, suc, ◌+◌, ◌*◌, ◌/◌, ◌≤◌, ◌<◌}
use native.Mathlib.Omega.{arith}
use mathlib.Core.Logic.{inl, inr}
use mathlib.Core.List.{List}
use mathlib.Core.Path.{◌≡◌, refl}
use Rattle.tables.proofs.Codes.{Below, Above, none_above, quarters, found, missing}
use Rattle.tables.proofs.find.Invariants.{Sized, all, quarter, sixteenth, four, one}
use Rattle.tables.proofs.find.Goals as goal
use Rattle.tables.proofs.find.Goals.{then-codes-low, else-codes-low, then-codes-low-2, else-codes-low-2, then-codes-low-3, else-codes-low-3, else-low-count-via-then-low-count+else-codes-low-4, else-low-count-via-else-low-count}

-- Each but the last is four of the next
next-size : {size : ℕ} → Sized size → 1 < size → (4 * (size / 4) ≡ size) × Sized (size / 4)
next-size all h = (refl, quarter)
next-size quarter h = (refl, sixteenth)
next-size sixteenth h = (refl, four)
next-size four h = (refl, one)
next-size one h = absurd (omega arith)

-- There is at least one
some : {size : ℕ} → Sized size → 1 ≤ size
some all = omega arith
some quarter = omega arith
some sixteenth = omega arith
some four = omega arith
some one = omega arith

-- What the three codes of a turn told
module _ (c : goal.After-row_known-in-loop-size-2-1) where
  abbrev part : ℕ
  part = c.loop-size.size / 4

  abbrev first : ℕ
  first = c.if-codes-low.first

  abbrev second : ℕ
  second = c.if-codes-low-2.second

  abbrev third : ℕ
  third = c.if-codes-low-3.third

  parts : (4 * part ≡ c.loop-size.size) × Sized part
  parts = next-size c.loop-size.invariant.0 c.loop-size-test.true

  most : first + second + third ≤ 3 * part
  most =
      let f : first ≤ part = elim c.if-codes-low.branch [ then-codes-low w ↦ omega (arith, w.first-is) | else-codes-low w ↦ omega (arith, w.first-is) ] in
      let s : second ≤ part = elim c.if-codes-low-2.branch [ then-codes-low-2 w ↦ omega (arith, w.second-is) | else-codes-low-2 w ↦ omega (arith, w.second-is) ] in
      let t : third ≤ part = elim c.if-codes-low-3.branch [ then-codes-low-3 w ↦ omega (arith, w.third-is) | else-codes-low-3 w ↦ omega (arith, w.third-is) ] in
      omega arith

  turned : let a = c.args in
      Below a.codes.now a.code (c.loop-size.low + (first + second + third)) × Above a.codes.now a.code (c.loop-size.low + (first + second + third) + part)
  turned =
      let a = c.args in
      let v = c.loop-size.invariant in
      let four-parts = parts.0 in
      quarters a.codes.now a.count a.code v.2 c.requires.0 c.requires.1 c.loop-size.low part first second third (some parts.1) (omega (arith, four-parts))
      v.3 (λ k h i. v.4 k (omega (arith, four-parts)) i)
      (elim c.if-codes-low.branch [ then-codes-low w ↦ inl (w.if-codes-low.true, w.first-is) | else-codes-low w ↦ inr (w.if-codes-low.false, w.first-is) ])
      (elim c.if-codes-low-2.branch [ then-codes-low-2 w ↦ inl (w.if-codes-low-2.true, w.second-is) | else-codes-low-2 w ↦ inr (w.if-codes-low-2.false, w.second-is) ])
      (elim c.if-codes-low-3.branch [ then-codes-low-3 w ↦ inl (w.if-codes-low-3.true, w.third-is) | else-codes-low-3 w ↦ inr (w.if-codes-low-3.false, w.third-is) ])

-- At the end one place is left, and the codes behind it are above
last-above : (codes : List ℕ) (code low size : ℕ) → Sized size → size ≤ 1 → Above codes code (low + size) → Above codes code (suc low)
last-above codes code low size s h above k l i = above k (omega (arith, some s)) i

pub loop-size-init : goal.loop-size-init
loop-size-init c =
    let a = c.args in
    (all, omega arith, c.told-codes, λ k h. absurd (omega arith), none_above a.codes.now a.count a.code c.told-codes c.requires.0 c.requires.1 (omega (arith, c.ranges.code)))

pub loop-size-preserved : goal.loop-size-preserved
loop-size-preserved c =
    let v = c.loop-size.invariant in
    ((parts c).1, omega (arith, most c, (parts c).0, v.1), v.2, (turned c).0, (turned c).1)

pub returns-then-codes-low-4 : goal.returns-then-codes-low-4
returns-then-codes-low-4 c =
    let a = c.args in
    let v = c.loop-size.invariant in
    found a.codes.now a.count a.code v.2 c.requires.0 c.requires.1 c.loop-size.low (omega (arith, some v.0)) v.3
    (last-above a.codes.now a.code c.loop-size.low c.loop-size.size v.0 c.loop-size-test.false v.4) c.if-low-count.true c.if-codes-low-4.true

pub returns-else-low-count : goal.returns-else-low-count
returns-else-low-count c =
    let a = c.args in
    let v = c.loop-size.invariant in
    missing a.codes.now a.count a.code v.2 c.requires.0 c.requires.1 c.loop-size.low (omega (arith, some v.0)) v.3
    (last-above a.codes.now a.code c.loop-size.low c.loop-size.size v.0 c.loop-size-test.false v.4)
    (elim c.else-low-count.branch [
      | else-low-count-via-then-low-count+else-codes-low-4 w ↦ λ h e. w.if-codes-low-4.false e
      | else-low-count-via-else-low-count w ↦ λ h e. absurd (omega (arith, h, w.if-low-count.false))
    ])
