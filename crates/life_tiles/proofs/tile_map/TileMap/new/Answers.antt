use Rattle.std.proofs.Common.{refl}
use Rattle.life_tiles.proofs.Emptied.{none_tiled}
use Rattle.life_tiles.proofs.tile_map.TileMap.new.Goals as goal

pub returns-clause-tiled : goal.returns-clause-tiled
returns-clause-tiled c =
    none_tiled _ _ _ c.new.ensures.empty c.new-2.ensures.empty refl c.new-rows.ensures.items c.new-next.ensures.items c.lengthen.ensures.rows c.lengthen.ensures.next c.in_ok-lengthen.ensures.rows_long c.in_ok-lengthen.ensures.next_long
