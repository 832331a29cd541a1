use Rattle.life_tiles.specs.Tiling.{LinksTo}
use Rattle.life_tiles.proofs.linking.link.Given as goal

abbrev pub invariant-loop-direction : goal.invariant-loop-direction
invariant-loop-direction l = LinksTo l.places.keys l.initial.beside l.beside l.index l.direction
