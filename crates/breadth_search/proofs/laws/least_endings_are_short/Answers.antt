use Rattle.std.proofs.Common.{[], refl}
use Rattle.breadth_search.specs.ShortnessLaws.{least_is_short}
use Rattle.breadth_search.proofs.laws.least_endings_are_short.Goals as goal

pub returns : goal.returns
returns g c = λ graph from limit count list states least.
    least_is_short _ g.met.S.Eq.laws g.met.S.Key.same (g.G.Graph.leads graph) (g.G.Ending.ends graph) (g.G.Graph.leads graph) (λ k a b h. h) from from limit count list states ([], refl) least
