use Rattle.std.proofs.Common.{◌≡◌, false, take}
use Rattle.life_cells.specs.Listed.{listed}
use Rattle.life_tiles.specs.Stepping.{IsFresh}
use Rattle.life_tiles.specs.Tiling.{IsTiled, cells_of}
use Rattle.life_tiles.proofs.filling.tiles_with.Given as goal

abbrev pub invariant-loop-cell : goal.invariant-loop-cell
invariant-loop-cell l = IsTiled l.tiles × IsFresh l.tiles × (l.tiles.recent ≡ false) × (cells_of l.tiles ≡ listed (take l.cell-index l.cells))
