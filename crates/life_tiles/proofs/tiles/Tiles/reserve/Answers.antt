use Rattle.std.proofs.Common.{ap, ◌∙◌}
use Rattle.life_tiles.specs.Tiled.{TiledCells}
use Rattle.life_tiles.proofs.Evolved.{made_same}
use Rattle.life_tiles.proofs.Settled.{settled_kept}
use Rattle.life_tiles.proofs.tiles.Tiles.reserve.Goals as goal

pub invariant_of-self : goal.invariant_of-self
invariant_of-self c = (c.grow.ensures.makes.tiled, settled_kept _ _ c.grow.ensures.makes c.self.invariant.1)

pub returns-clause-cells : goal.returns-clause-cells
returns-clause-cells c = made_same c.self.inside.tiles c.grow.new.self c.self.invariant.0 c.grow.ensures.makes ∙ ap (λ (v : TiledCells). v.cells) c.self.view_is
