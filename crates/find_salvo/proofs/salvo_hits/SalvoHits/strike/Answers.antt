use Rattle.std.proofs.Common.{◌∙◌, ℤ, [], ◌∷◌, ◌++◌, length, ◌<◌, ap, subst, sym, w64}
use Rattle.std.proofs.lemmas.Int.{to_z-of_z}
use Rattle.life_plane.specs.Plane.{Plane}
use Rattle.life_cells.specs.Boxes.{IsInRange}
use Rattle.life_cells.specs.Cells.{alive}
use Rattle.book_parts.specs.declared.limits.TheConstants.{MOST_LANES}
use Rattle.recipe_hit.specs.Refusals.{HasNoHit}
use Rattle.recipe_hit.specs.Strike.{IsHit}
use Rattle.find_salvo.specs.Kept.{Kept, lanes_of, left_so_far, IsKept}
use Rattle.find_salvo.proofs.Options.{when_some, when_none}
use Rattle.find_salvo.proofs.Hits.{kept_range, kept_more, kept_missing, lanes_grown, missing_is, left_read}
use Rattle.find_salvo.proofs.salvo_hits.SalvoHits.strike.Goals as goal

pub returns-then-eq-clause-none : goal.returns-then-eq-clause-none
returns-then-eq-clause-none g c _ =
    subst (λ (k : Kept). HasNoHit (left_so_far k) c.args.lane) c.self.view_is
    (missing_is _ c.self.inside.missing _ c.args.lane c.self.invariant.missing (sym c.eq.ensures ∙ c.if-eq.true) (to_z-of_z w64 c.args.lane c.ranges.lane))

pub returns-then-eq-clause-kept : goal.returns-then-eq-clause-kept
returns-then-eq-clause-kept g c = subst IsKept c.self.view_is c.self.invariant

pub hit_of-requires-clause-range : goal.hit_of-requires-clause-range
hit_of-requires-clause-range g c =
    subst (IsInRange 1099511627776) (sym (left_read _ _ _ _ _ c.left_by-left.ensures c.cells.ensures.cells c.deref.ensures.value))
    (kept_range _ c.cells.ensures.hand.proper c.self.invariant)

pub returns-in_err-hit-clause-kept : goal.returns-in_err-hit-clause-kept
returns-in_err-hit-clause-kept g c = c.self.invariant

pub invariant_of-self-in-Some : goal.invariant_of-self-in-Some
invariant_of-self-in-Some g c =
    let left = left_read _ _ _ _ _ c.left_by-left.ensures c.cells.ensures.cells c.deref.ensures.value in
    let strikes = subst (λ (l : ℤ). IsHit (alive c.left_by-left.result.now) l c.in-Some.hit) (to_z-of_z w64 c.args.lane c.ranges.lane) (when_some _ _ _ c.in-Some.is c.in_ok-hit.ensures.some) in
    kept_more _ _ _ _ _ c.args.lane c.in-Some.hit c.self.invariant (subst (λ (k : Kept). length k.hits < MOST_LANES) (sym c.self.view_is) c.requires.few) left strikes c.in_ok-push-in-Some.ensures.items

pub returns-in_ok-push-in-Some-clause-hit : goal.returns-in_ok-push-in-Some-clause-hit
returns-in_ok-push-in-Some-clause-hit g c _ =
    let strikes = subst (λ (l : ℤ). IsHit (alive c.left_by-left.result.now) l c.in-Some.hit) (to_z-of_z w64 c.args.lane c.ranges.lane) (when_some _ _ _ c.in-Some.is c.in_ok-hit.ensures.some) in
    lanes_grown _ _ _ c.args.lane c.in-Some.hit strikes c.in_ok-push-in-Some.ensures.items ∙ ap (λ (k : Kept). lanes_of k.hits ++ c.args.lane ∷ []) c.self.view_is

pub returns-in_ok-push-in-Some-clause-kept : goal.returns-in_ok-push-in-Some-clause-kept
returns-in_ok-push-in-Some-clause-kept g c = invariant_of-self-in-Some g c

pub invariant_of-self-in-None : goal.invariant_of-self-in-None
invariant_of-self-in-None g c =
    let left = left_read _ _ _ _ _ c.left_by-left.ensures c.cells.ensures.cells c.deref.ensures.value in
    kept_missing _ _ _ _ _ c.self.invariant left (when_none _ _ c.in-None.is c.in_ok-hit.ensures.none)

pub returns-in-None-clause-kept : goal.returns-in-None-clause-kept
returns-in-None-clause-kept g c = invariant_of-self-in-None g c

pub returns-in-None-clause-none : goal.returns-in-None-clause-none
returns-in-None-clause-none g c _ =
    let left = left_read _ _ _ _ _ c.left_by-left.ensures c.cells.ensures.cells c.deref.ensures.value in
    let none = subst (HasNoHit (alive c.left_by-left.result.now)) (to_z-of_z w64 c.args.lane c.ranges.lane) (when_none _ _ c.in-None.is c.in_ok-hit.ensures.none) in
    subst (λ (k : Kept). HasNoHit (left_so_far k) c.args.lane) c.self.view_is (subst (λ (s : Plane). HasNoHit s c.args.lane) left none)
