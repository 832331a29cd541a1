use Rattle.std.proofs.Common.{◌≡◌, ◌++◌}
use Rattle.life_tiles.specs.Tiling.{word_cells}
use Rattle.life_tiles.proofs.reading.push_word.Given as goal

abbrev pub invariant-columns : goal.invariant-columns
invariant-columns l = l.cells.items ≡ l.initial.cells.items ++ word_cells l.place l.down l.word l.right
