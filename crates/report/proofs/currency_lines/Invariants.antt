-- `report::currency_lines` meets its contract. The loop's invariant: the lines of the currencies before `rank` are written.
use Rattle.std.proofs.Common.{drop}
use Rattle.std.specs.List.{zip}
use Rattle.report.proofs.Loops.{Told}
use Rattle.report.specs.Texts.{lines_of}
use Rattle.report.proofs.currency_lines.Given as goal

abbrev pub invariant-loop-rank : goal.invariant-loop-rank
invariant-loop-rank l =
    let all = zip l.tables.securities.currencies.items l.figures.currencies.items in
    Told (lines_of l.full l.tables.classes) all (drop l.rank all) l.from l.initial.report l.at l.report
