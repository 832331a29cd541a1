use Rattle.life_cells.specs.BoxLaws.{range_of_list}
use Rattle.std.proofs.Common.{ap, ◌∙◌}
use Rattle.life_cells.specs.Cells.{alive}
use Rattle.life_cells.proofs.Generations.{marks_step}
use Rattle.life_cells.proofs.step.next_generation.Goals as goal

pub near_places-requires : goal.near_places-requires
near_places-requires c = range_of_list _ _ _ c.cells.ensures.order c.requires

pub returns : goal.returns
returns c =
    ap alive c.from_rising.ensures
    ∙ marks_step c.args.cells.now _ _ _ _ _ c.cells.ensures.order c.cells.ensures.rising c.in_ok-near.ensures c.in_ok-sort.ensures.permutation c.deref.ensures.value c.in_ok-next.ensures.lives
