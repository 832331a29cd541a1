use Rattle.std.proofs.Common.{◌^◌, ap, arith, rules}
use Rattle.life_cells.specs.BoxLaws.{range_wider}
use Rattle.life_cells.specs.Cells.{alive}
use Rattle.recipe_hit.specs.Strike.{ever}
use Rattle.recipe_hit.proofs.SetBox.{box_of_set}
use Rattle.recipe_hit.proofs.Resting.{course_range, not_still_now, moves_more, ever_more, seen_more, never_rests}
use Rattle.recipe_hit.proofs.Comparisons.{holds_if_true}
use Rattle.recipe_hit.proofs.rest.come_to_rest.Goals as goal
use Rattle.life_tiles.specs.CourseLaws.{course_more}

pub loop-generation-init : goal.loop-generation-init
loop-generation-init g c = record {
  now = search rules;
  moves = search rules;
  bounds = search rules;
  seen = record { at = 0; early = omega arith; is = ap alive c.in_ok-before.ensures };
  least = search rules;
  most = search rules;
}

pub goes_on-requires : goal.goes_on-requires
goes_on-requires g c = course_range (alive c.args.start.now) _ c.loop-generation.generation c.requires.range (omega arith) c.loop-generation.invariant.now

pub returns-then-branch-clause-none : goal.returns-then-branch-clause-none
returns-then-branch-clause-none g c =
    never_rests (alive c.args.start.now) c.loop-generation.tiles.cells c.loop-generation.before c.loop-generation.generation c.loop-generation.invariant.now c.loop-generation.invariant.moves c.loop-generation.invariant.seen
    (c.in_ok-goes_on.ensures.seen c.if-branch.true)

pub step-requires : goal.step-requires
step-requires g c =
    range_wider (2 ^ 58) (2 ^ 61) _ (course_range (alive c.args.start.now) _ c.loop-generation.generation c.requires.range (omega arith) c.loop-generation.invariant.now) (omega arith)

pub loop-generation-preserved : goal.loop-generation-preserved
loop-generation-preserved g c =
    let now = course_more (alive c.args.start.now) (alive c.loop-generation.tiles.cells) _ c.loop-generation.generation c.loop-generation.invariant.now c.in_ok-step.ensures.next in
    record {
      now = now;
      moves = moves_more (alive c.args.start.now) c.loop-generation.generation c.loop-generation.invariant.moves
          (not_still_now (alive c.args.start.now) c.loop-generation.tiles.cells c.step.new.self.cells c.loop-generation.generation c.loop-generation.invariant.now c.in_ok-step.ensures.next (holds_if_true c.in_ok-step.field-0 _ _ c.if-not-branch.false c.in_ok-step.ensures.changed));
      bounds = ever_more (alive c.args.start.now) _ _ c.loop-generation.generation now
          (c.grown-bounds.ensures (ever c.loop-generation.generation (alive c.args.start.now)) _ c.loop-generation.invariant.bounds (box_of_set _ c.step.new.self.cells c.bounds.ensures.some c.bounds.ensures.none));
      seen = seen_more (alive c.args.start.now) c.loop-generation.tiles.cells c.loop-generation.before _ c.loop-generation.generation c.loop-generation.invariant.now c.loop-generation.invariant.seen c.in_ok-goes_on.ensures.kept;
      least = let least = c.step.ensures.least in omega arith;
      most = let most = c.step.ensures.most in omega arith;
    }
