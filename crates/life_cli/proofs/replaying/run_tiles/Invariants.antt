use Rattle.std.proofs.Common.{◌≡◌, ◌+◌, ◌≤◌}
use Rattle.life_plane.specs.Plane.{run}
use Rattle.life_cells.specs.Cells.{alive}
use Rattle.life_cli.proofs.replaying.run_tiles.Given as goal

-- the generations so far were made, and no more were counted
abbrev pub invariant-loop-generation : goal.invariant-loop-generation
invariant-loop-generation g l = record {
  run : alive l.tiles.cells ≡ run l._generation (alive l.initial.tiles.cells);
  least : l.initial.steps ≤ l.steps;
  most : l.steps ≤ l.initial.steps + l._generation;
}
