use Rattle.std.proofs.Common.{◌<◌, ◌^◌, List, [], ◌∷◌, ◌++◌, length, ap, subst, ◌∙◌}
use Rattle.life_cells.specs.declared.cell.Cell.{Cell}
use Rattle.breadth_search.specs.Labelled.{Labelled}
use Rattle.hand_route.specs.Rooms.{Places}
use Rattle.hand_route.specs.Ways.{Ground}
use Rattle.life_plane.specs.LookUpLaws.{when_none, when_some, past_end}
use Rattle.hand_route.proofs.Kept.{is_labelling, kept_at, kept_from, labelling_from, kept_on, fewer_left}
use Rattle.hand_route.proofs.ways.HandWays.grow.Goals as goal

pub grow_at-requires-clause-kept : goal.grow_at-requires-clause-kept
grow_at-requires-clause-kept c = kept_at _ _ c.in-Some.at _ _ _ _ c.places.invariant.0

pub invariant_of-self : goal.invariant_of-self
invariant_of-self c = kept_from _ _ _ _ _ _ _ _ _ c.places.invariant.0 c.in_err-grown.ensures.kept

pub returns-in_err-grown-clause-labelling : goal.returns-in_err-grown-clause-labelling
returns-in_err-grown-clause-labelling c = labelling_from _ _ _ _ _ _ _ _ _ c.places.invariant.0 c.in_err-grown.ensures.kept

pub invariant_of-self-in-Some-grown : goal.invariant_of-self-in-Some-grown
invariant_of-self-in-Some-grown c = kept_from _ _ _ _ _ _ _ _ _ c.places.invariant.0 c.in_ok-grown.ensures.kept

pub returns-in-Some-grown-clause-some : goal.returns-in-Some-grown-clause-some
returns-in-Some-grown-clause-some c =
    let before = ap (λ (p : Places). p.cells) c.places.invariant.1.0 ∙ ap (λ (l : Labelled Ground Cell). l.states) c.self.view_is in
    when_some _ _ _ c.in-Some-grown.is c.in_ok-grown.ensures.some ∙ ap (λ (cs : List Cell). cs ++ c.in-Some-grown.next ∷ []) before

pub returns-in-Some-grown-clause-near : goal.returns-in-Some-grown-clause-near
returns-in-Some-grown-clause-near c = when_some _ _ _ c.in-Some-grown.is c.in_ok-grown.ensures.near

pub returns-in-Some-grown-clause-small : goal.returns-in-Some-grown-clause-small
returns-in-Some-grown-clause-small c =
    let before = ap (λ (p : Places). p.cells) c.places.invariant.1.0 ∙ ap (λ (l : Labelled Ground Cell). l.states) c.self.view_is in
    subst (λ (cs : List Cell). length cs < 2 ^ 63) before c.in-Some.ensures.small

pub returns-in-Some-grown-clause-labelling : goal.returns-in-Some-grown-clause-labelling
returns-in-Some-grown-clause-labelling c = labelling_from _ _ _ _ _ _ _ _ _ c.places.invariant.0 c.in_ok-grown.ensures.kept

pub places-smaller : goal.places-smaller
places-smaller c = fewer_left _ _ _ _ c.places.invariant.1.0 c.in-Some.ensures.at

pub places-preserved : goal.places-preserved
places-preserved c =
    let same = when_none _ _ c.in_default-grown.is c.in_ok-grown.ensures.none in
    let over = when_none _ _ c.in_default-grown.is c.in_ok-grown.ensures.over in
    (kept_on _ _ _ _ _ _ _ _ _ c.places.invariant.0 c.in_ok-grown.ensures.kept same c.in-Some.ensures.at over, (same ∙ c.places.invariant.1.0, c.places.invariant.1.1))

pub returns-clause-whole : goal.returns-clause-whole
returns-clause-whole c = past_end _ _ c.in_default.ensures.at

pub returns-clause-small : goal.returns-clause-small
returns-clause-small c =
    let before = ap (λ (p : Places). p.cells) c.places.invariant.1.0 ∙ ap (λ (l : Labelled Ground Cell). l.states) c.self.view_is in
    subst (λ (cs : List Cell). length cs < 2 ^ 63) before c.in_default.ensures.small

pub returns-clause-labelling : goal.returns-clause-labelling
returns-clause-labelling c = is_labelling _ _ _ _ _ _ c.places.invariant.0
