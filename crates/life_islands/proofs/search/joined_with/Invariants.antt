use Rattle.std.proofs.Common.{◌-◌, ◌^◌}
use Rattle.life_cells.specs.Cells.{alive}
use Rattle.life_islands.proofs.Flooding.{IsSearched}
use Rattle.life_islands.proofs.search.joined_with.Given as goal

abbrev pub invariant-cells : goal.invariant-cells
invariant-cells l = IsSearched (alive l.cells) l.fn.start l.place l.found.keys

abbrev pub decreases-cells : goal.decreases-cells
decreases-cells l = 2 ^ 64 - l.place
