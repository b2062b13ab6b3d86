-- `report::write` meets its contract: the M lines from the start, and behind them the lines of the currencies.
use Prim.Native.Nat.{◌+◌, ◌≤◌}
use native.Mathlib.Omega.{arith}
use lib.ListN.{length}
use Rattle.lines.proofs.Written.{parts, joined}
use Rattle.report.specs.Texts.{mark_texts, currency_texts, report_text}
use Rattle.report.proofs.write.Goals as goal

pub returns : goal.returns
returns c =
    let full = c.args.full in
    let t = c.args.tables.now in
    let f = c.args.figures.now in
    let both = parts (mark_texts t f) (currency_texts full t f) in
    let fits : 0 + length (report_text full t f) ≤ length c.args.report.now = omega (arith, c.requires.room) in
    joined both 0 c.args.report.now fits c.mark_lines-at.ensures c.currency_lines.ensures
