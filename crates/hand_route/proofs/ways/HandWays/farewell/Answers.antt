use Rattle.std.proofs.Common.{subst, arith}
use Rattle.std.proofs.lemmas.Option.{slice_get_within}
use Rattle.life_cells.specs.declared.cell.Cell.{Cell}
use Rattle.life_cells.specs.Listed.{same_cell}
use Rattle.breadth_search.specs.Labelled.{Labelled}
use Rattle.breadth_search.specs.Leads.{IsFirstEnd}
use Rattle.breadth_search.specs.SeekingLaws.{seek_on, seek_ends, seek_fails, grown_on}
use Rattle.hand_route.specs.Ways.{Ground, carries, takes}
use Rattle.life_plane.specs.LookUpLaws.{when_none, when_some}
use Rattle.hand_route.proofs.ways.HandWays.farewell.Goals as goal

pub first_taker-requires : goal.first_taker-requires
first_taker-requires c = when_some _ _ _ c.in-Some.is c.in_ok-at.ensures.near

pub list_of-requires : goal.list_of-requires
list_of-requires c = slice_get_within _ _ _ (when_some _ _ _ c.in-Some.is c.in_ok-at.ensures.some)

pub returns-in-Some-first_taker-clause-some : goal.returns-in-Some-first_taker-clause-some
returns-in-Some-first_taker-clause-some c =
    seek_ends carries takes same_cell _ _ _ c.come_to.new.self _ c.places.invariant.0 c.in_ok-at.ensures.among c.in_ok-at.ensures.from c.in_ok-at.ensures.grown c.in_ok-at.ensures.labelling
    _ c.first_taker.result _ (when_some _ _ _ c.in-Some.is c.in_ok-at.ensures.some) c.in-Some-first_taker.is
    (subst (λ (l : Labelled Ground Cell). IsFirstEnd (takes l.graph) c.in-Some.at c.first_taker.result) c.self.view_is (c.first_taker.ensures c.self.inside.found.room))
    _ _ c.in_ok-list.ensures.list c.in_ok-push.ensures.items

pub places-preserved : goal.places-preserved
places-preserved c = (
  seek_on carries takes same_cell _ _ _ c.come_to.new.self _ c.places.invariant.0 c.in_ok-at.ensures.among c.in_ok-at.ensures.from c.in_ok-at.ensures.grown c.in_ok-at.ensures.labelling
      _ c.first_taker.result (when_some _ _ _ c.in-Some.is c.in_ok-at.ensures.some) c.in_ok-at.ensures.small c.in_default-first_taker.is
      (subst (λ (l : Labelled Ground Cell). IsFirstEnd (takes l.graph) c.in-Some.at c.first_taker.result) c.self.view_is (c.first_taker.ensures c.self.inside.found.room)),
  grown_on _ _ _ c.places.invariant.1 c.in_ok-at.ensures.grown,
)

pub places-smaller : goal.places-smaller
places-smaller c = let small = c.in_ok-at.ensures.small in omega arith

pub returns-clause-none : goal.returns-clause-none
returns-clause-none c =
    (seek_fails carries takes same_cell _ _ _ c.come_to.new.self _ c.places.invariant.0 c.in_ok-at.ensures.among c.in_ok-at.ensures.from c.in_ok-at.ensures.grown c.in_ok-at.ensures.labelling
    c.places.number (when_none _ _ c.in_default.is c.in_ok-at.ensures.none) (when_none _ _ c.in_default.is c.in_ok-at.ensures.whole) (omega arith)).1
