use Rattle.std.proofs.Common.{ap, ◌∙◌}
use Rattle.life_cells.specs.Cells.{from_list}
use Rattle.life_tiles.specs.Tiled.{TiledCells}
use Rattle.life_tiles.specs.Tiling.{set_of}
use Rattle.life_tiles.proofs.tiles.Tiles.to_cells.Goals as goal

pub returns : goal.returns
unfolding set_of
returns c = c.in_ok-set.ensures ∙ ap from_list (c.deref.ensures.value ∙ c.in_ok-cells.ensures) ∙ ap (λ (v : TiledCells). v.cells) c.self.view_is
