-- The starred figures of document 01, 1 to 9, as the checker computes them.
use Rattle.std.specs.Prelude.{refl}
use Rattle.paper.specs.Rounding.{nearest, rounded}
use Rattle.paper.specs.Days.{is_open, working_after}
use Rattle.paper.specs.Offsetting.{offset_row, offset_all}
use Rattle.paper.specs.Figures.{Figures}

-- The claim
pub figures : Figures
unfolding nearest rounded is_open working_after offset_row offset_all
figures = (refl, refl, refl, refl, refl, refl, refl, refl, refl, refl, refl, refl, refl, refl, refl)
