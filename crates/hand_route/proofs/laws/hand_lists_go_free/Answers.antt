use Rattle.hand_route.specs.VisitLaws.{hand_list_goes_free}
use Rattle.hand_route.proofs.laws.hand_lists_go_free.Goals as goal

pub returns : goal.returns
returns c = hand_list_goes_free
