-- `lines::put_code` meets its contract. The loop's invariant: the bytes left and those written behind them are the text.
use Prim.Native.Nat.{ℕ, suc, ◌+◌, ◌-◌, ◌/◌, ◌%◌}
use native.Mathlib.Nat.{add-zero, add-suc}
use native.Mathlib.Omega.{arith}
use mathlib.Core.List.{[], ◌∷◌}
use mathlib.Core.Path.{◌≡◌, refl, ap, ap₂, ◌∙◌}
use lib.ListN.{length, set}
use Rattle.paper.specs.Units.{Text}
use Rattle.paper.specs.Text.{semicolon}
use Rattle.lines.specs.Written.{Place, written, spelled}
use Rattle.lines.proofs.Written.{written_length, written_before, parts, joined}
use Rattle.lines.proofs.put_code.Invariants.{Ended}
use Rattle.lines.proofs.put_code.Goals as goal

module _ {text : Text} {at : Place} {b : Text} {n : ℕ} {after : Text} where
  -- Written before the end, the last of them is the end's first
  one_more : {many : ℕ} → Ended text at b (suc many) n after → Ended text at b many (n / 43) (set after (at + many) (48 + n % 43))
  one_more {many} e =
      record {
        end = (48 + n % 43) ∷ e.end;
        whole = e.whole;
        fits = omega (arith, e.fits);
        there =
            rw (e.there, add-suc at many) (written_before (48 + n % 43) e.end (at + many) b (omega (arith, e.fits)));
      }

  -- The buffer is as long as it was
  as_long : {many : ℕ} → Ended text at b many n after → length after ≡ length b
  as_long {many} e = ap length e.there ∙ written_length e.end (at + many) b e.fits

  -- Where none are left, the text is written
  none_left : Ended text at b 0 n after → after ≡ written text at b
  none_left e = e.there ∙ ap₂ (λ (t : Text) (p : Place). written t p b) e.whole (add-zero at)

pub loop-i-preserved : goal.loop-i-preserved
loop-i-preserved c =
    let l = c.loop-i in
    let more : l.i ≡ suc (l.i - 1) = omega arith in
    one_more (rw more at l.invariant)

pub returns : goal.returns
returns c =
    let n = c.args.code in
    let none : c.loop-i.i ≡ 0 = omega arith in
    joined (parts (spelled 11 (n / 10) []) ((48 + n % 10) ∷ semicolon ∷ [])) _ _ c.requires
    (refl, none_left (rw none at c.loop-i.invariant))
    c.put.ensures
