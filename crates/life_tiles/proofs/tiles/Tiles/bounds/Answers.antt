use Rattle.std.proofs.Common.{sym, ap, subst}
use Rattle.life_cells.specs.Boxes.{IsBoxOf}
use Rattle.life_tiles.specs.Tiled.{TiledCells}
use Rattle.life_tiles.proofs.Evolved.{shown, box_some, box_none}
use Rattle.life_tiles.proofs.tiles.Tiles.bounds.Goals as goal

pub returns-clause-some : goal.returns-clause-some
returns-clause-some c = box_some _ _ _ (sym (shown c.self.inside.tiles _ c.self.invariant.0 (ap (λ (v : TiledCells). v.cells) c.self.view_is))) c.bounds_of.ensures

pub returns-clause-none : goal.returns-clause-none
returns-clause-none c = box_none _ _ (subst (IsBoxOf c.bounds_of.result) (sym (shown c.self.inside.tiles _ c.self.invariant.0 (ap (λ (v : TiledCells). v.cells) c.self.view_is))) c.bounds_of.ensures)
