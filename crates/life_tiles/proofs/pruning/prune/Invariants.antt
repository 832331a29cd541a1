use Rattle.life_tiles.proofs.Pruned.{KeepsTo}
use Rattle.life_tiles.proofs.pruning.prune.Given as goal

abbrev pub invariant-tiles : goal.invariant-tiles
invariant-tiles l = KeepsTo l.initial.tiles l.tiles l.index
