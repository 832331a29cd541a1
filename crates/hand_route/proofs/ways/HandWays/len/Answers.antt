use Rattle.hand_route.proofs.Kept.{labelling_seen}
use Rattle.hand_route.proofs.ways.HandWays.len.Goals as goal

pub returns-clause-labelling : goal.returns-clause-labelling
returns-clause-labelling c = labelling_seen _ _ _ _ _ _ _ c.self.view_is c.self.invariant
