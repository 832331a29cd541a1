use Rattle.std.proofs.Common.{◌≡◌, ◌+◌, ◌≤◌}
use Rattle.life_plane.specs.Plane.{run}
use Rattle.life_cells.specs.Cells.{alive}
use Rattle.life_cells.specs.Boxes.{IsLeastBox}
use Rattle.recipe_hit.specs.Strike.{ever}
use Rattle.recipe_hit.proofs.Resting.{MovesBefore, WasSeen}
use Rattle.recipe_hit.proofs.rest.come_to_rest.Given as goal

abbrev pub invariant-loop-generation : goal.invariant-loop-generation
invariant-loop-generation g l = record {
  now : alive l.tiles.cells ≡ run l.generation (alive l.start);
  moves : MovesBefore (alive l.start) l.generation;
  bounds : IsLeastBox l.bounds (ever l.generation (alive l.start));
  seen : WasSeen (alive l.start) l.before l.generation;
  least : l.initial.steps ≤ l.steps;
  most : l.steps ≤ l.initial.steps + l.generation;
}
