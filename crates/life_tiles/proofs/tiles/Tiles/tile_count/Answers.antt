use Rattle.std.proofs.Common.{ap, ◌∙◌}
use Rattle.life_tiles.specs.Tiled.{TiledCells, tile_count}
use Rattle.life_tiles.proofs.tiles.Tiles.tile_count.Goals as goal

pub returns : goal.returns
returns c = c.live_count.ensures ∙ ap (λ (v : TiledCells). tile_count v.cells) c.self.view_is
