use Rattle.std.proofs.Common.{subst}
use Rattle.std.proofs.lemmas.Option.{slice_get_within}
use Rattle.breadth_search.specs.Leads.{IsFirstEnd}
use Rattle.life_plane.specs.LookUpLaws.{when_none, when_some}
use Rattle.breadth_search.specs.SeekingLaws.{seek_on, seek_ends, seek_fails, seek_more, grown_on}
use Rattle.breadth_search.proofs.labelling.Labelling.search.Goals as goal

pub returns-in_default-clause-answers : goal.returns-in_default-clause-answers
returns-in_default-clause-answers g c =
    seek_fails g.G.Graph.leads g.G.Ending.ends g.S.PartialEq.eq _ _ _ _ _ c.states.invariant.0 c.in_ok-here.ensures.graph c.in_ok-here.ensures.from c.in_ok-here.ensures.grown c.in_ok-here.ensures.labelling
    _ (when_none _ _ c.in_default.is c.in_ok-here.ensures.none) (when_none _ _ c.in_default.is c.in_ok-here.ensures.whole) c.states-test.true

pub list_to-requires : goal.list_to-requires
list_to-requires g c = slice_get_within _ _ _ (when_some _ _ _ c.in-Some.is c.in_ok-here.ensures.some)

pub returns-in-Some-ending-clause-answers : goal.returns-in-Some-ending-clause-answers
returns-in-Some-ending-clause-answers g c =
    seek_ends g.G.Graph.leads g.G.Ending.ends g.S.PartialEq.eq _ _ _ _ _ c.states.invariant.0 c.in_ok-here.ensures.graph c.in_ok-here.ensures.from c.in_ok-here.ensures.grown c.in_ok-here.ensures.labelling
    _ c.ending.result _ (when_some _ _ _ c.in-Some.is c.in_ok-here.ensures.some) c.in-Some-ending.is (subst (λ h. IsFirstEnd (g.G.Ending.ends h) c.in-Some.here c.ending.result) c.graph.ensures c.ending.ensures)
    _ _ c.in_ok-list.ensures.list c.in_ok-push.ensures.items

pub states-preserved : goal.states-preserved
states-preserved g c = (
  seek_on g.G.Graph.leads g.G.Ending.ends g.S.PartialEq.eq _ _ _ _ _ c.states.invariant.0 c.in_ok-here.ensures.graph c.in_ok-here.ensures.from c.in_ok-here.ensures.grown c.in_ok-here.ensures.labelling
      _ c.ending.result (when_some _ _ _ c.in-Some.is c.in_ok-here.ensures.some) c.in_ok-here.ensures.small c.in_default-ending.is
      (subst (λ h. IsFirstEnd (g.G.Ending.ends h) c.in-Some.here c.ending.result) c.graph.ensures c.ending.ensures),
  grown_on _ _ _ c.states.invariant.1 c.in_ok-here.ensures.grown,
)

pub returns-clause-answers : goal.returns-clause-answers
returns-clause-answers g c = seek_more g.G.Graph.leads g.G.Ending.ends g.S.PartialEq.eq _ _ _ _ _ c.states.invariant.0 c.states-test.false
