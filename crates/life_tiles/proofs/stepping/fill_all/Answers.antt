use Rattle.std.proofs.Common.{◌≡◌, [], length, subst, arith}
use Rattle.life_tiles.proofs.Filled.{FilledTo, filled_begin, still_rested, filled_more, filled_end}
use Rattle.life_tiles.proofs.stepping.fill_all.Goals as goal

pub tiles-init : goal.tiles-init
tiles-init c = filled_begin c.args.places.now.keys c.args.rows.now c.args.next.now c.args.awake.now c.args.waking.now

pub fill_tile-requires-clause-rested : goal.fill_tile-requires-clause-rested
fill_tile-requires-clause-rested c = still_rested _ _ _ c.tiles.next [] _ c.tiles.awake [] _ c.tiles.waking [] c.tiles.index c.requires.grid.distinct c.tiles.invariant c.requires.rested

pub tiles-preserved : goal.tiles-preserved
tiles-preserved c = filled_more _ _ _ _ _ _ _ _ _ _ _ c.tiles.index c.requires.grid.distinct c.tiles.invariant c.fill_tile.ensures

pub returns : goal.returns
returns c =
    let end = c.tiles.auto.index-end in
    let past = c.tiles-test.false in
    let done : c.tiles.index ≡ length c.args.places.now.keys = omega (arith, c.len-count.ensures.len) in
    filled_end _ _ _ _ _ _ _ _ (subst (FilledTo c.args.places.now.keys c.args.rows.now c.args.next.now c.tiles.next c.args.awake.now c.tiles.awake c.args.waking.now c.tiles.waking) done c.tiles.invariant)
