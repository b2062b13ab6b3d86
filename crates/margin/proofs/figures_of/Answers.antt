-- `margin::figures_of` meets its contract: what a currency begins with is within the table of bounds, and so is its total.
use Prim.Native.Nat.{◌<◌}
use native.Mathlib.Omega.{arith}
use mathlib.Core.Path.{ap, ◌∙◌}
use lib.ListN.{length}
use Rattle.margin.specs.Figures.{currency_at}
use Rattle.margin.proofs.Positions.{over_slice, opens, total_is, total_small, book_is, book_small}
use Rattle.margin.proofs.Forwards.{ranks_many, ranks_pushed}
use Rattle.margin.proofs.figures_of.Goals as goal

pub openings_of-openings-requires : goal.openings_of-openings-requires
openings_of-openings-requires c =
    let trades = c.as_slice-trades.ensures in
    let securities = c.as_slice-securities.ensures in
    opens c.args.tables.now c.requires trades.value securities.value trades.fits securities.fits (over_slice _ c.sums_of.ensures securities.value)

pub currency_of-requires-clause-amounts : goal.currency_of-requires-clause-amounts
currency_of-requires-clause-amounts c =
    let t = c.args.tables.now in
    let rank = c.loop-rank.rank in
    let low : rank < 8 = omega (arith, c.len-rank-end.ensures.fits) in
    let trades = c.as_slice-trades.ensures in
    let securities = c.as_slice-securities.ensures in (
      book_small t c.requires trades.value securities.value trades.fits securities.fits (over_slice _ c.sums_of.ensures securities.value) c.openings_of-openings.ensures rank low _,
      total_small t c.requires trades.value securities.value trades.fits securities.fits (over_slice _ c.sums_of.ensures securities.value) rank,
    )

pub push-requires : goal.push-requires
push-requires c =
    let rank = c.loop-rank.rank in
    let low : rank < 8 = omega (arith, c.len-rank-end.ensures.fits) in
    let room : length c.loop-rank.currencies.items < 8 =
    omega (arith, low, ap length c.loop-rank.invariant, ranks_many (currency_at c.args.tables.now) rank 0)
    in
    (omega arith, room)

pub loop-rank-preserved : goal.loop-rank-preserved
loop-rank-preserved c =
    let t = c.args.tables.now in
    let rank = c.loop-rank.rank in
    let low : rank < 8 = omega (arith, c.len-rank-end.ensures.fits) in
    let trades = c.as_slice-trades.ensures in
    let securities = c.as_slice-securities.ensures in
    c.push.ensures.items
    ∙ ranks_pushed (currency_at t) rank c.loop-rank.invariant
    (c.currency_of.ensures
    ∙ rw (
      c.as_slice-classes.ensures.value,
      c.as_slice-priorities.ensures.value,
      total_is t c.requires trades.value securities.value trades.fits securities.fits (over_slice _ c.sums_of.ensures securities.value) rank,
      book_is t c.requires trades.value securities.value trades.fits securities.fits (over_slice _ c.sums_of.ensures securities.value) c.openings_of-openings.ensures rank low _,
    ))
