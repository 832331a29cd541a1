use Rattle.std.proofs.Common.{◌*◌, ◌<◌, length, get_or, pos, ap, sym, subst, ◌∙◌, arith}
use Rattle.life_cells.specs.Laws.{listed-append}
use Rattle.life_cells.specs.Listed.{listed}
use Rattle.life_plane.specs.Plane.{union}
use Rattle.life_cells.specs.Boxes.{IsBoxOf}
use Rattle.life_tiles.specs.Tiling.{place, tile_cells, list_cells}
use Rattle.life_tiles.proofs.Lists.{list_none, list_more, listed_plane}
use Rattle.life_tiles.proofs.Tiling.{item_of}
use Rattle.life_tiles.proofs.bounding.bounds_of.Goals as goal

pub with_tile-found-requires-clause-near : goal.with_tile-found-requires-clause-near
with_tile-found-requires-clause-near c =
    let within : c.tiles.index < length c.args.tiles.now.places.keys = omega (arith, c.len-count.ensures.len) in
    c.requires.near.each c.tiles.index _ (item_of c.as_slice.result.now _ c.tiles.index _ c.as_slice.ensures.keys within)

pub tiles-init : goal.tiles-init
tiles-init c = ap listed (list_none _ _)

pub tiles-preserved : goal.tiles-preserved
tiles-preserved c =
    subst (IsBoxOf c.with_tile-found.result)
    (ap (union (listed (list_cells c.args.tiles.now.places.keys c.args.tiles.now.rows.items c.tiles.index))) (λ i. listed (tile_cells (get_or (c.as_slice.ensures.keys i) c.tiles.index (place (pos 0) (pos 0))) (c.deref.ensures.value i) (64 * c.tiles.index) 64))
    ∙ sym (listed-append _ _) ∙ ap listed (sym (list_more _ _ _)))
    (c.with_tile-found.ensures _ c.tiles.invariant)

pub returns : goal.returns
returns c =
    subst (IsBoxOf c.tiles.found) (ap (λ n. listed (list_cells c.args.tiles.now.places.keys c.args.tiles.now.rows.items n)) (let done = c.tiles.auto.index-end in let past = c.tiles-test.false in let count = c.len-count.ensures.len in omega arith) ∙ listed_plane c.args.tiles.now c.requires) c.tiles.invariant
