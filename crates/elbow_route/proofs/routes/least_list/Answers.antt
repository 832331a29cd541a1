use Rattle.std.proofs.Common.{arith, w64, to_z, of_z}
use Rattle.std.proofs.lemmas.Int.{ints}
use Rattle.elbow_route.proofs.Answered.{no_route}
use Rattle.elbow_route.proofs.routes.least_list.Goals as goal

pub returns-in-Nowhere-clause-none : goal.returns-in-Nowhere-clause-none
returns-in-Nowhere-clause-none c = no_route _ _ (to_z w64 (of_z w64 c.args.span)) _ _ _ _ _ c.in-Nowhere.is (omega (arith, ints)) c.in_ok-list.ensures
