use Rattle.std.proofs.Common.{[], ◌∷◌, ◌+◌, ◌*◌, ◌<◌, Some, length, sym, ap, subst, ◌∙◌, arith, length-set, ℕ}
use Rattle.std.proofs.lemmas.List.{get_or_default}
use Rattle.std.proofs.lemmas.Option.{slice_get_within}
use Rattle.life_cells.specs.Listed.{listed}
use Rattle.life_kernel.specs.Words.{plane_of_words}
use Rattle.life_kernel.specs.WordLaws.{offset_below}
use Rattle.life_plane.specs.Plane.{union}
use Rattle.life_tiles.proofs.Added.{tile_near, set_cell_at, set_long_at}
use Rattle.life_tiles.proofs.Settled.{fresh_kept}
use Rattle.life_tiles.proofs.Tiling.{rows_room, rows_small}
use Rattle.life_tiles.proofs.filling.add_cell.Goals as goal

pub make-requires-clause-near : goal.make-requires-clause-near
make-requires-clause-near c = tile_near c.args.cell _ c.requires.range c.of.ensures

pub overflow_mul-at : goal.overflow_mul-at
overflow_mul-at c =
    let fits = rows_small _ c.make.ensures.makes.tiled c.in_ok-index.index (slice_get_within _ _ _ c.in_ok-index.ensures.there) in
    omega arith

pub overflow_add-at : goal.overflow_add-at
overflow_add-at c =
    let fits = rows_small _ c.make.ensures.makes.tiled c.in_ok-index.index (slice_get_within _ _ _ c.in_ok-index.ensures.there) in
    let below = offset_below c.args.cell.y in
    omega (arith, c.down_in_tile.ensures)

pub overflow_shl-right_in_tile : goal.overflow_shl-right_in_tile
overflow_shl-right_in_tile c = subst (λ n. n < 64) (sym c.right_in_tile.ensures) (offset_below c.args.cell.x)

pub index_mut-requires : goal.index_mut-requires
index_mut-requires c =
    let room = rows_room _ c.make.ensures.makes.tiled c.in_ok-index.index (slice_get_within _ _ _ c.in_ok-index.ensures.there) in
    let below = offset_below c.args.cell.y in
    omega (arith, c.down_in_tile.ensures)

pub returns-clause-tiled : goal.returns-clause-tiled
returns-clause-tiled c =
    let tiled = c.make.ensures.makes.tiled in
    let at = c.in_ok-index.ensures.there ∙ ap Some c.of.ensures in
    record {
      distinct = tiled.distinct;
      rows = set_long_at _ _ c.in_ok-index.index c.args.cell tiled.distinct at tiled.rows _ _ c.down_in_tile.ensures;
      next = tiled.next;
      near = tiled.near;
      links = tiled.links;
      room = record {
        few = tiled.room.few;
        places = tiled.room.places;
        kept = tiled.room.kept;
        rows = (let room = tiled.room.rows in omega (arith, length-set {A = ℕ}));
        next = tiled.room.next;
        beside = tiled.room.beside;
        awake = tiled.room.awake;
        waking = tiled.room.waking;
      };
      none = tiled.none;
    }

pub returns-clause-added : goal.returns-clause-added
returns-clause-added c =
    let tiled = c.make.ensures.makes.tiled in
    let at = c.in_ok-index.ensures.there ∙ ap Some c.of.ensures in
    let room = rows_room _ tiled c.in_ok-index.index (slice_get_within _ _ _ c.in_ok-index.ensures.there) in
    let below = offset_below c.args.cell.y in
    let ok = c.make.new.self.rows.ok.0 in
    let within : 64 * c.in_ok-index.index + c.down_in_tile.result < length c.make.new.self.rows.items = omega (arith, c.down_in_tile.ensures) in
    set_cell_at _ c.make.new.self.rows.items c.in_ok-index.index c.args.cell tiled.distinct at tiled.rows _ _ _ c.down_in_tile.ensures c.right_in_tile.ensures
    (c.index_mut.ensures.value ∙ get_or_default _ _ _ 0 within)
    ∙ ap (λ w. union (plane_of_words w) (listed (c.args.cell ∷ []))) c.make.ensures.makes.words

pub returns-in_err-index-clause-fresh : goal.returns-in_err-index-clause-fresh
returns-in_err-index-clause-fresh c fresh = fresh_kept _ _ c.make.ensures.makes fresh

pub returns-clause-fresh : goal.returns-clause-fresh
returns-clause-fresh c fresh = let made = fresh_kept _ _ c.make.ensures.makes fresh in record { awake = made.awake; quiet = record { each = made.quiet.each } }
