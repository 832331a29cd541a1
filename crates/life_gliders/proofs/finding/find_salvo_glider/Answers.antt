use Rattle.std.proofs.Common.{◌≡◌, ℕ, ℤ, ◌∙◌, ap, below_more, arith, w64, to_z, of_z}
use Rattle.std.proofs.lemmas.Int.{ints, to_z-of_z}
use Rattle.life_plane.specs.Plane.{Plane}
use Rattle.life_plane.specs.Salvo.{salvo_glider}
use Rattle.life_cells.specs.Cells.{alive}
use Rattle.life_gliders.specs.Beyond.{beyond}
use Rattle.life_gliders.specs.Starts.{StartsAt}
use Rattle.life_gliders.proofs.FirstCells.{none_is_no_glider, none_of_four, not_glider, not_this_phase}
use Rattle.life_gliders.proofs.finding.find_salvo_glider.Goals as goal

pub returns-in_default-clause-none : goal.returns-in_default-clause-none
returns-in_default-clause-none c l j e =
    let front : Plane = beyond (to_z w64 (of_z w64 c.args.wall)) (alive c.args.cells.now) in
    none_is_no_glider front l j c.in_default.ensures.none (ap (λ w. beyond w (alive c.args.cells.now)) (to_z-of_z w64 c.args.wall c.ranges.wall) ∙ e)

pub loop-number-preserved : goal.loop-number-preserved
loop-number-preserved c =
    let front : Plane = beyond (to_z w64 (of_z w64 c.args.wall)) (alive c.args.cells.now) in
    let first = c.in-Some.first in
    let lane : ℤ = c.starting_at-lane.result.0 in
    let index : ℤ = c.starting_at-lane.result.1 in
    let lane_fits : to_z w64 (of_z w64 lane) ≡ lane = omega (arith, ints, c.starting_at-lane.ensures.lane_low, c.starting_at-lane.ensures.lane_high) in
    let index_fits : to_z w64 (of_z w64 index) ≡ index = omega (arith, ints, c.starting_at-lane.ensures.index_low, c.starting_at-lane.ensures.index_high) in
    below_more (λ (k : ℕ). (l j : ℤ) → StartsAt first k l j → front ≡ salvo_glider l j → ⊥) c.loop-number.number c.loop-number.invariant
    (λ l j there. not_this_phase front first c.loop-number.number lane index l j c.starting_at-lane.ensures.start (not_glider front lane index _ _ _ lane_fits index_fits c.is_glider.ensures c.if-is_glider.false) there)

pub returns-clause-none : goal.returns-clause-none
returns-clause-none c l j e =
    let front : Plane = beyond (to_z w64 (of_z w64 c.args.wall)) (alive c.args.cells.now) in
    none_of_four front c.in-Some.first c.loop-number.number c.in-Some.ensures.some c.loop-number-test.false c.loop-number.invariant l j
    (ap (λ w. beyond w (alive c.args.cells.now)) (to_z-of_z w64 c.args.wall c.ranges.wall) ∙ e)
