-- `lines::put_number` meets its contract: itoa writes the digits up to the place behind them, as many as the power of ten says.
use Rattle.std.proofs.Common.{◌+◌, ◌++◌, arith, length, take, drop, take-append-drop, ◌≡◌, sym, ◌∙◌}
use Rattle.paper.specs.Units.{Text}
use Rattle.paper.specs.Text.{digits}
use Rattle.lines.specs.Written.{Place, written}
use Rattle.lines.proofs.Digits.{digits_decimal, digits_length}
use Rattle.lines.proofs.put_number.Goals as goal

-- A text that ends at a place, with all else as it was, is written
ended : (t b after : Text) (at start end : Place) → start ≡ at → end ≡ at + length t → take start after ≡ take start b
    → drop start after ≡ t ++ drop end b → after ≡ written t at b
ended t b after at start end e f p q = sym (take-append-drop start after) ∙ rw (p, q, e, f)

pub write_digits-requires : goal.write_digits-requires
write_digits-requires c =
    let many = digits_length c.args.n c.ilog10.result c.max.result c.ranges.n.fits c.max.ensures c.ilog10.ensures.power_le c.ilog10.ensures.next_power_gt in
    rw (← (digits_decimal c.args.n c.ranges.n.fits)) (grind arith)

pub returns : goal.returns
returns c =
    let n = c.args.n in
    let many = digits_length n c.ilog10.result c.max.result c.ranges.n.fits c.max.ensures c.ilog10.ensures.power_le c.ilog10.ensures.next_power_gt in
    let decimal = digits_decimal n c.ranges.n.fits in
    let start = rw (← decimal) at c.write_digits.ensures.start in (
      omega arith,
      ended (digits n) c.args.report.now c.write_digits.new.buf c.args.at c.write_digits.result (c.args.at + 1 + c.ilog10.result) (omega arith)
          (omega arith)
          c.write_digits.ensures.before
          (rw (← decimal) at c.write_digits.ensures.written),
    )
