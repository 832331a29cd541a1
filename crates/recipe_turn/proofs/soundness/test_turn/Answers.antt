use Rattle.std.proofs.Common.{pos, ◌^◌, ◌∙◌, ap, sym, subst}
use Rattle.life_plane.specs.Plane.{run}
use Rattle.life_cells.specs.Cells.{alive}
use Rattle.life_cells.specs.Boxes.{IsInRange}
use Rattle.recipe_turn.specs.Turn.{AreSpaced}
use Rattle.recipe_turn.specs.StartLaws.{start_in_range}
use Rattle.recipe_turn.proofs.Courses.{start_is}
use Rattle.recipe_turn.proofs.soundness.test_turn.Goals as goal
use Rattle.life_tiles.specs.CourseLaws.{first_different}

pub evolve-requires-clause-range : goal.evolve-requires-clause-range
evolve-requires-clause-range g c =
    let start = start_is c.args.settings.now (alive c.args.kind.now) _ _ c.args.turn.now _ c.items-delays.ensures c.in_ok-starting_gliders.ensures c.in_ok-start.ensures in
    subst (IsInRange (2 ^ 40)) (sym start) (start_in_range c.args.settings.now c.requires.settings (alive c.args.kind.now) c.requires.kind c.args.turn.now.delays c.requires.delays.range)

pub returns-in-Some-clause-refusal : goal.returns-in-Some-clause-refusal
returns-in-Some-clause-refusal g c =
    let start = start_is c.args.settings.now (alive c.args.kind.now) _ _ c.args.turn.now _ c.items-delays.ensures c.in_ok-starting_gliders.ensures c.in_ok-start.ensures in (
      subst (λ ds. AreSpaced ds (pos c.args.turn.now.n)) c.items-delays.ensures c.in_ok-test_gaps.ensures.spaced,
      first_different _ _ _ _ c.in-Some.cell (c.in_ok-course.ensures.last ∙ ap (run c.args.turn.now.n) start) c.in_ok-stated.ensures c.in-Some.ensures.some,
    )
