use Rattle.std.proofs.Common.{ℕ, Vec, Global}
use Rattle.std.proofs.lemmas.Result.{IfOk-weaker}
use Rattle.hand_route.proofs.Kept.{least_seen}
use Rattle.hand_route.proofs.ways.HandWays.list_of.Goals as goal

pub returns-clause-least : goal.returns-clause-least
returns-clause-least c = IfOk-weaker _ _ _ (λ (list : Vec ℕ Global) by_labels. least_seen _ _ _ _ _ _ _ c.self.view_is c.self.invariant _ c.requires list.items by_labels) c.list_to.ensures
