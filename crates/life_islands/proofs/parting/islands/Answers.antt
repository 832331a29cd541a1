use Rattle.life_islands.proofs.Listing.{islands_of_set}
use Rattle.life_islands.proofs.parting.islands.Goals as goal

pub returns : goal.returns
returns c =
    let gives = c.into_iter-rank-iterator.ensures.into_iter_gives in
    islands_of_set _ _ _ _ _ c.in_ok-ranked.ensures gives.0 gives.5 c.loop-rank.invariant c.in-None.ensures.steps.0
