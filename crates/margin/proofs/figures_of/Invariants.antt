-- `margin::figures_of` meets its contract. The loop's invariant: the figures are those of the first currencies.
use mathlib.Core.Path.{◌≡◌}
use Rattle.margin.specs.Openings.{from_rank}
use Rattle.margin.specs.Figures.{currency_at}
use Rattle.margin.proofs.figures_of.Given as goal

abbrev pub invariant-loop-rank : goal.invariant-loop-rank
invariant-loop-rank l = l.currencies.items ≡ from_rank (currency_at l.tables) l.rank 0
