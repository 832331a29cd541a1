use Rattle.std.proofs.Common.{sym, ◌∙◌, ap, Some}
use Rattle.life_plane.specs.LookUpLaws.{when_none, when_some}
use Rattle.breadth_search.specs.SeekingLaws.{not_reached, lacks_more, at_last, grown_more}
use Rattle.breadth_search.proofs.labelling.Labelling.find.Goals as goal

pub returns-in_default-2-clause-none : goal.returns-in_default-2-clause-none
returns-in_default-2-clause-none g c =
    not_reached g.G.Graph.leads g.S.PartialEq.eq _ _ _ c.states.self c.grow.new.self c.states.invariant.0 c.states.invariant.1.0 c.in_ok-next.ensures.graph c.in_ok-next.ensures.from
    (when_none _ _ c.in_default-2.is c.in_ok-next.ensures.none) c.in_ok-next.ensures.labelling (when_none _ _ c.in_default-2.is c.in_ok-next.ensures.whole) c.states.invariant.1.1.1

pub returns-then-eq-clause-some : goal.returns-then-eq-clause-some
returns-then-eq-clause-some g c =
    let grown = when_some _ _ _ c.in-Some-2.is c.in_ok-next.ensures.some in
    let last = at_last _ _ _ _ grown c.len-place.ensures.len in
    (last.0, last.1 ∙ ap Some (g.met.S.Key.same _ _ (sym c.eq.ensures ∙ c.if-eq.true)))

pub states-preserved : goal.states-preserved
states-preserved g c =
    let grown = when_some _ _ _ c.in-Some-2.is c.in_ok-next.ensures.some in (
      c.in_ok-next.ensures.graph ∙ c.states.invariant.0,
      (
        c.in_ok-next.ensures.from ∙ c.states.invariant.1.0,
        (
          grown_more _ _ _ _ c.states.invariant.1.1.0 grown,
          lacks_more g.S.PartialEq.eq g.met.S.Eq.laws.refl _ _ _ _ grown (sym c.eq.ensures ∙ c.if-eq.false) c.states.invariant.1.1.1,
        ),
      ),
    )
