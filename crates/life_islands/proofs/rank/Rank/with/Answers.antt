use Rattle.std.proofs.Common.{rules, w64}
use Rattle.std.specs.Prelude.{FitsSigned}
use Rattle.life_islands.proofs.Ranking.{rank_with, least_is}
use Rattle.life_islands.proofs.rank.Rank.with.Goals as goal

pub returns : goal.returns
returns c = λ cells h.
    let fits : FitsSigned w64 c.args.self.minus_u = search rules in
    rank_with cells c.args.cell c.args.self _ _ h (least_is _ _ _ fits c.requires c.min.ensures.value) c.min-2.ensures
