use Rattle.std.proofs.Common.{ap, subst, sym}
use Rattle.life_cells.specs.Boxes.{IsLeastBox, IsBoxOf}
use Rattle.life_cells.specs.BoxLaws.{box_stays, least_of_both}
use Rattle.life_cells.specs.Listed.{listed}
use Rattle.life_plane.specs.Plane.{union}
use Rattle.life_tiles.specs.Tiling.{tile_cells}
use Rattle.life_tiles.proofs.Boxed.{box_first, some_row, tile_least}
use Rattle.life_tiles.proofs.Lists.{no_columns}
use Rattle.life_tiles.proofs.bounding.with_tile.Goals as goal

pub returns-then-columns-eq0 : goal.returns-then-columns-eq0
returns-then-columns-eq0 c s h = box_stays _ s _ (ap listed (no_columns c.args.place _ _ _ c.any_of-columns.ensures.all c.if-columns-eq0.true)) h

pub tile_box-tile-requires-clause-row : goal.tile_box-tile-requires-clause-row
tile_box-tile-requires-clause-row c = some_row c.args.place _ _ _ c.live_rows.ensures _ c.if-columns-eq0.false c.any_of-columns.type_inv c.any_of-columns.ensures.all c.any_of-columns.ensures.some

pub returns-in-None : goal.returns-in-None
returns-in-None c s h =
    subst (λ b. IsLeastBox b (union s (listed (tile_cells c.args.place c.args.rows.now c.args.first 64)))) (sym c.tile_box-tile.ensures)
    (box_first _ s _ (subst (λ o. IsBoxOf o s) c.in-None.is h)
    (tile_least c.args.place _ _ _ c.live_rows.ensures _ c.if-columns-eq0.false c.any_of-columns.type_inv c.any_of-columns.ensures.all c.any_of-columns.ensures.some))

pub returns-in-Some : goal.returns-in-Some
returns-in-Some c s h =
    subst (λ b. IsLeastBox b (union s (listed (tile_cells c.args.place c.args.rows.now c.args.first 64)))) (sym c.joined.ensures)
    (least_of_both _ _ s _ (subst (λ o. IsBoxOf o s) c.in-Some.is h)
    (subst (λ b. IsLeastBox b (listed (tile_cells c.args.place c.args.rows.now c.args.first 64))) (sym c.tile_box-tile.ensures)
    (tile_least c.args.place _ _ _ c.live_rows.ensures _ c.if-columns-eq0.false c.any_of-columns.type_inv c.any_of-columns.ensures.all c.any_of-columns.ensures.some)))
