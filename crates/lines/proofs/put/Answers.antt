-- `lines::put` meets its contract: a byte set behind what is written is one byte more written.
use Prim.Native.Nat.{ℕ, suc, ◌+◌, ◌≤◌, ◌<◌}
use native.Mathlib.Omega.{arith}
use native.Mathlib.Numerals.{add-one}
use mathlib.Core.List.{[], ◌∷◌}
use mathlib.Core.Path.{◌≡◌, sym, ap, ◌∙◌}
use lib.ListN.{length, get_or, set, take}
use lib.Seq.{length-take-le, take-suc, set_split}
use Rattle.paper.specs.Units.{Byte, Text}
use Rattle.lines.specs.Written.{Place, written}
use Rattle.lines.proofs.Written.{written_length, written_on}
use Rattle.lines.proofs.put.Goals as goal

-- A byte set is that byte written
byte_written : (x : Byte) (at : Place) (b : Text) → at < length b → set b at x ≡ written (x ∷ []) at b
byte_written x at b h =
    let next : at + length (x ∷ []) ≡ suc at = omega arith in
    rw next (set_split b at x h)

-- Behind the first bytes of a text that fits, it is one of them more written
byte_more : (t : Text) (at : Place) (b : Text) (i : ℕ) → at + length t ≤ length b → i < length t
    → set (written (take i t) at b) (at + i) (get_or t i 0) ≡ written (take (i + 1) t) at b
byte_more t at b i fits low =
    let x = get_or t i 0 in
    let many : length (take i t) ≡ i = length-take-le i t (omega arith) in
    let front : at + length (take i t) ≤ length b = omega (arith, many) in
    byte_written x (at + i) (written (take i t) at b) (omega (arith, written_length (take i t) at b front))
    ∙ ap (λ (p : ℕ). written (x ∷ []) (at + p) (written (take i t) at b)) (sym many)
    ∙ written_on (take i t) (x ∷ []) at b (omega (arith, many))
    ∙ ap (λ (u : Text). written u at b) (sym (take-suc t i 0 low) ∙ ap (λ (n : ℕ). take n t) (sym (add-one i)))

pub loop-i-preserved : goal.loop-i-preserved
loop-i-preserved c =
    let l = c.loop-i in
    ap (λ (b : Text). set b (c.args.at + l.i) (get_or c.args.text.now l.i 0)) l.invariant
    ∙ byte_more c.args.text.now c.args.at c.args.report.now l.i c.requires c.loop-i-test.true
