use Rattle.std.proofs.Common.{sym}
use Rattle.breadth_search.proofs.Growing.{fewer_left, same_on, still_here, kept_from, kept_turns}
use Rattle.life_plane.specs.LookUpLaws.{when_none, past_end}
use Rattle.breadth_search.proofs.Kept.{is_labelling}
use Rattle.breadth_search.proofs.labelling.Labelling.grow.Goals as goal

pub returns-in_err-grown-clause-labelling : goal.returns-in_err-grown-clause-labelling
returns-in_err-grown-clause-labelling g c =
    is_labelling g.G.Graph.leads g.S.PartialEq.eq g.met.S.Eq.laws.refl _ _ _ _ _ _ (kept_from _ _ _ _ _ _ _ _ _ _ _ _ c.places.invariant.0 c.in_err-grown.ensures.kept)

pub returns-in-Some-grown-clause-labelling : goal.returns-in-Some-grown-clause-labelling
returns-in-Some-grown-clause-labelling g c =
    is_labelling g.G.Graph.leads g.S.PartialEq.eq g.met.S.Eq.laws.refl _ _ _ _ _ _ (kept_from _ _ _ _ _ _ _ _ _ _ _ _ c.places.invariant.0 c.in_ok-grown.ensures.kept)

pub places-smaller : goal.places-smaller
places-smaller g c = fewer_left _ _ _ _ (sym c.in-Some.ensures) c.places.invariant.1.0.states_are

pub places-preserved : goal.places-preserved
places-preserved g c =
    let same = when_none _ _ c.in_default-grown.is c.in_ok-grown.ensures.none in
    let over = when_none _ _ c.in_default-grown.is c.in_ok-grown.ensures.over in (
      kept_turns _ _ _ _ _ _ _ _ (kept_from _ _ _ _ _ _ _ _ _ _ _ _ c.places.invariant.0 c.in_ok-grown.ensures.kept) (still_here _ _ _ _ _ _ same (sym c.in-Some.ensures)) over,
      (same_on _ _ _ _ _ _ c.places.invariant.1.0 same, c.places.invariant.1.1),
    )

pub returns-clause-whole : goal.returns-clause-whole
returns-clause-whole g c = past_end _ _ c.in_default.ensures

pub returns-clause-labelling : goal.returns-clause-labelling
returns-clause-labelling g c = is_labelling g.G.Graph.leads g.S.PartialEq.eq g.met.S.Eq.laws.refl _ _ _ _ _ _ c.places.invariant.0
