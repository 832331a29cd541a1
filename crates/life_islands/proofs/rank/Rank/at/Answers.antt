use Rattle.life_islands.proofs.Ranking.{rank_one, difference_is}
use Rattle.life_islands.proofs.rank.Rank.at.Goals as goal

pub returns : goal.returns
returns c = rank_one c.args.cell _ (difference_is c.args.cell c.requires)
