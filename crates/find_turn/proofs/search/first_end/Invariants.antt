use Rattle.std.proofs.Common.{◌≡◌, ◌+◌, ◌≤◌}
use Rattle.life_plane.specs.Plane.{run}
use Rattle.life_cells.specs.Cells.{alive}
use Rattle.recipe_turn.specs.Turn.{KeepsBounds}
use Rattle.find_turn.proofs.Searching.{NoneYet}
use Rattle.find_turn.proofs.Settling.{NoneSettled}
use Rattle.find_turn.proofs.search.first_end.Given as goal

abbrev pub invariant-loop-done : goal.invariant-loop-done
invariant-loop-done g l = record {
  now : alive l.tiles.cells ≡ run l.done (alive l.start);
  kept : KeepsBounds l.settings l.delays (alive l.start) l.done;
  none : NoneYet l.settings l.kinds (alive l.start) l.tried.least l.done;
  looks : NoneSettled (alive l.start) l.tried.least l.done;
  least : l.initial.steps ≤ l.steps;
  most : l.steps ≤ l.initial.steps + l.done;
}
