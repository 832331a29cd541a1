use Rattle.std.proofs.Common.{◌≡◌, ◌^◌, ◌∙◌, ap, subst, arith}
use Rattle.life_plane.specs.Plane.{run}
use Rattle.life_cells.specs.Cells.{alive}
use Rattle.recipe_turn.specs.Breaches.{AreKnown}
use Rattle.recipe_turn.proofs.Courses.{course_range}
use Rattle.recipe_turn.proofs.evolution.evolve.Goals as goal
use Rattle.life_tiles.specs.CourseLaws.{course_more}

pub after-requires-clause-range : goal.after-requires-clause-range
after-requires-clause-range g c = course_range (alive c.args.start.now) _ c.loop-generation.generation (2 ^ 41) c.requires.range (omega arith) c.loop-generation.invariant.now (omega arith)

pub step-requires : goal.step-requires
step-requires g c = course_range (alive c.args.start.now) _ c.loop-generation.generation (2 ^ 61) c.requires.range (omega arith) c.loop-generation.invariant.now (omega arith)

pub loop-generation-preserved : goal.loop-generation-preserved
loop-generation-preserved g c = record {
  now = course_more (alive c.args.start.now) (alive c.loop-generation.tiles.cells) _ c.loop-generation.generation c.loop-generation.invariant.now c.in_ok-step.ensures.next;
  known = c.in_ok-breaches.ensures (alive c.args.start.now) c.loop-generation.invariant.now c.loop-generation.invariant.known;
  least = let least = c.step.ensures.least in omega arith;
  most = let most = c.step.ensures.most in omega arith;
}

pub after-requires-2-clause-range : goal.after-requires-2-clause-range
after-requires-2-clause-range g c = course_range (alive c.args.start.now) _ c.loop-generation.generation (2 ^ 41) c.requires.range (omega arith) c.loop-generation.invariant.now (omega arith)

pub returns-clause-breaches : goal.returns-clause-breaches
returns-clause-breaches g c =
    let last : c.loop-generation.generation ≡ c.args.n = omega arith in
    c.in_ok-breaches-2.ensures (alive c.args.start.now) (c.loop-generation.invariant.now ∙ ap (λ k. run k (alive c.args.start.now)) last)
    (subst (λ k. AreKnown c.args.settings.now c.args.delays.now (alive c.args.start.now) k c.loop-generation.breaches) last c.loop-generation.invariant.known)
