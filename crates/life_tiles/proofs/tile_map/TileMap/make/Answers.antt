use Rattle.std.proofs.Common.{◌≡◌, ◌<◌, List, ℕ, sym, ap, subst, refl, ◌∙◌, arith, slice_get, length}
use Rattle.std.specs.Vec.{with_items}
use Rattle.std.proofs.lemmas.List.{with_items_is}
use Rattle.life_tiles.specs.Tiling.{AreNear, LinksTo}
use Rattle.life_tiles.proofs.Rooms.{few_tiles, makes_both, near_more, put_behind, put_at_end, placed}
use Rattle.life_tiles.proofs.Tiling.{found_index, tile_at_index}
use Rattle.life_tiles.proofs.Woken.{in_all, in_empty}
use Rattle.life_tiles.proofs.tile_map.TileMap.make.Goals as goal

pub returns-in-Some-clause-there : goal.returns-in-Some-clause-there
returns-in-Some-clause-there c =
    let p = c.args.place in
    let places = c.args.self.now.places.keys in
    let found = found_index places p.column p.row c.in-Some.index (sym c.find.ensures ∙ c.in-Some.is) in
    ap (slice_get places) found.0 ∙ tile_at_index places p.column p.row (subst (λ n. n < length places) found.0 found.1)

pub link-requires-clause-near : goal.link-requires-clause-near
link-requires-clause-near c =
    let keys = put_behind _ _ c.args.place (sym c.find.ensures ∙ c.in_default.is) c.widen.ensures.same _ c.in_ok-index.ensures.keys in
    subst AreNear (sym keys) (near_more c.widen.new.self.places.keys c.args.place c.widen.ensures.makes.tiled.near c.requires.near)

pub returns-clause-makes : goal.returns-clause-makes
returns-clause-makes c =
    let tiled = c.widen.ensures.makes.tiled in
    let free = c.in_ok-widen.ensures.free in
    let words = few_tiles _ tiled in
    let none = sym c.find.ensures ∙ c.in_default.is in
    let keys = put_behind _ _ c.args.place none c.widen.ensures.same _ c.in_ok-index.ensures.keys in
    let end : c.in_ok-index.index ≡ length c.widen.new.self.places.keys = put_at_end _ _ c.args.place none c.widen.ensures.same _ c.in_ok-index.ensures.index in
    let now : (with_items c.widen.new.self.beside c.link.new.beside).items ≡ c.link.new.beside = with_items_is c.widen.new.self.beside c.link.new.beside (c.link.auto.beside ∙ c.deref_mut.ensures.len) in
    let links : LinksTo c.insert_full.new.self.keys c.widen.new.self.beside.items (with_items c.widen.new.self.beside c.link.new.beside).items (length c.widen.new.self.places.keys) 9 =
    subst (λ (xs : List ℕ). LinksTo c.insert_full.new.self.keys xs (with_items c.widen.new.self.beside c.link.new.beside).items (length c.widen.new.self.places.keys) 9) c.deref_mut.ensures.value
    (subst (λ (xs : List ℕ). LinksTo c.insert_full.new.self.keys c.deref_mut.result.now xs (length c.widen.new.self.places.keys) 9) (sym now)
    (subst (λ n. LinksTo c.insert_full.new.self.keys c.deref_mut.result.now c.link.new.beside n 9) end c.link.ensures)) in
    makes_both _ _ _ c.widen.ensures.makes
    (placed _ _ c.args.place tiled c.requires.near free (omega arith) keys c.insert_full.ensures.unique c.insert_full.ensures.spare refl refl refl refl refl links c.in_ok-index.index end _ _ refl refl
    (in_all _ refl refl) (in_empty _ refl refl))
