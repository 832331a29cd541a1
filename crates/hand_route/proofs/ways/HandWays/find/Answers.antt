use Rattle.std.proofs.Common.{◌≡◌, List, refl, sym, ◌∙◌, ap, subst, [], Some}
use Rattle.std.specs.List.{slice_get, Contains}
use Rattle.std.proofs.lemmas.List.{append-nil}
use Rattle.std.proofs.lemmas.Option.{slice_get_within}
use Rattle.life_cells.specs.declared.cell.Cell.{Cell}
use Rattle.life_cells.specs.Listed.{same_cell}
use Rattle.breadth_search.specs.Labelled.{Labelled}
use Rattle.breadth_search.specs.KeyLaws.{same_cell as by_parts}
use Rattle.breadth_search.specs.SeekingLaws.{not_reached, lacks_more, at_last, grown_more}
use Rattle.hand_route.specs.Ways.{Ground, carries}
use Rattle.life_plane.specs.LookUpLaws.{when_none, when_some}
use Rattle.hand_route.proofs.Kept.{equal_cells, equal_cells-itself}
use Rattle.hand_route.proofs.ways.HandWays.find.Goals as goal

pub returns-in-Some-clause-some : goal.returns-in-Some-clause-some
returns-in-Some-clause-some c =
    let there = subst (λ (cs : List Cell). slice_get cs c.in-Some.number ≡ Some c.args.to) (ap (λ (l : Labelled Ground Cell). l.states) c.self.view_is) c.in-Some.ensures.some in
    (slice_get_within _ _ _ there, there)

pub returns-in_default-2-clause-none : goal.returns-in_default-2-clause-none
returns-in_default-2-clause-none c =
    not_reached carries same_cell _ _ _ c.places.self c.grow.new.self c.places.invariant.0 c.places.invariant.1.0 c.in_ok-next.ensures.among c.in_ok-next.ensures.from
    (when_none _ _ c.in_default-2.is c.in_ok-next.ensures.none) c.in_ok-next.ensures.labelling (when_none _ _ c.in_default-2.is c.in_ok-next.ensures.whole) c.places.invariant.1.1.1

pub returns-then-eq-clause-some : goal.returns-then-eq-clause-some
returns-then-eq-clause-some c =
    let last = at_last _ _ _ _ (when_some _ _ _ c.in-Some-2.is c.in_ok-next.ensures.some) c.len-number.ensures.len in
    (last.0, last.1 ∙ ap Some (by_parts _ _ (sym c.eq.ensures ∙ c.if-eq.true)))

pub places-preserved : goal.places-preserved
places-preserved c =
    let grown = when_some _ _ _ c.in-Some-2.is c.in_ok-next.ensures.some in (
      c.in_ok-next.ensures.among ∙ c.places.invariant.0,
      (
        c.in_ok-next.ensures.from ∙ c.places.invariant.1.0,
        (grown_more _ _ _ _ c.places.invariant.1.1.0 grown, lacks_more equal_cells equal_cells-itself _ _ _ _ grown (sym c.eq.ensures ∙ c.if-eq.false) c.places.invariant.1.1.1),
      ),
    )

pub places-init : goal.places-init
places-init c = (refl, (refl, (([], sym (append-nil _)), subst (λ (cs : List Cell). Contains cs c.args.to → ⊥) (ap (λ (l : Labelled Ground Cell). l.states) c.self.view_is) c.in_default.ensures.none)))
