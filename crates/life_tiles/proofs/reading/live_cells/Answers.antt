use Rattle.std.proofs.Common.{◌*◌, ◌<◌, length, get_or, pos, sym, ap₂, ◌∙◌, ◌++◌, arith}
use Rattle.life_tiles.specs.Tiling.{place, tile_cells}
use Rattle.life_tiles.proofs.Lists.{list_none, list_more}
use Rattle.life_tiles.proofs.Tiling.{item_of}
use Rattle.life_tiles.proofs.reading.live_cells.Goals as goal

pub push_tile-requires-clause-near : goal.push_tile-requires-clause-near
push_tile-requires-clause-near c =
    let within : c.tiles.index < length c.args.tiles.now.places.keys = omega (arith, c.len-count.ensures.len) in
    c.requires.near.each c.tiles.index _ (item_of c.as_slice.result.now _ c.tiles.index _ c.as_slice.ensures.keys within)

pub tiles-init : goal.tiles-init
tiles-init c = c.new-cells.ensures.items ∙ sym (list_none _ _)

pub tiles-preserved : goal.tiles-preserved
tiles-preserved c =
    c.in_ok-push_tile.ensures
    ∙ ap₂ (λ xs ys. xs ++ ys) c.tiles.invariant (ap₂ (λ ks rs. tile_cells (get_or ks c.tiles.index (place (pos 0) (pos 0))) rs (64 * c.tiles.index) 64) c.as_slice.ensures.keys c.deref.ensures.value)
    ∙ sym (list_more _ _ _)
