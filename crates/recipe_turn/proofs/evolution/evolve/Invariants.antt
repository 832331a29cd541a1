use Rattle.std.proofs.Common.{◌≡◌, ◌+◌, ◌≤◌}
use Rattle.life_plane.specs.Plane.{run}
use Rattle.life_cells.specs.Cells.{alive}
use Rattle.recipe_turn.specs.Breaches.{AreKnown}
use Rattle.recipe_turn.proofs.evolution.evolve.Given as goal

abbrev pub invariant-loop-generation : goal.invariant-loop-generation
invariant-loop-generation g l = record {
  now : alive l.tiles.cells ≡ run l.generation (alive l.start);
  known : AreKnown l.settings l.delays (alive l.start) l.generation l.breaches;
  least : l.initial.steps ≤ l.steps;
  most : l.steps ≤ l.initial.steps + l.generation;
}
