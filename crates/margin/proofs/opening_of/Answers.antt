-- `margin::opening_of` meets its contract: the trades summed, the positions opened, and of those the ones of the currency.
use Rattle.margin.proofs.Positions.{over_slice, opens, opened_small}
use Rattle.margin.proofs.opening_of.Goals as goal

pub openings_of-openings-requires : goal.openings_of-openings-requires
openings_of-openings-requires c =
    let trades = c.as_slice-trades.ensures in
    let securities = c.as_slice-securities.ensures in
    opens c.args.tables.now c.requires.0 trades.value securities.value trades.fits securities.fits (over_slice _ c.sums_of.ensures securities.value)

pub returns-clause-amounts : goal.returns-clause-amounts
returns-clause-amounts c =
    let trades = c.as_slice-trades.ensures in
    let securities = c.as_slice-securities.ensures in
    opened_small c.args.tables.now c.requires.0 trades.value securities.value trades.fits securities.fits (over_slice _ c.sums_of.ensures securities.value) c.openings_of-openings.ensures
    c.args.rank
    c.requires.1
    _
