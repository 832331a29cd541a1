use Rattle.std.proofs.Common.{◌≡◌, ◌+◌, ◌-◌, ◌*◌, ◌<◌, length, get_or, set, slice_get, position, Some, None, pos, sym, ap, subst, ◌∙◌, arith}
use Rattle.life_tiles.specs.declared.place.Place.{Place}
use Rattle.life_tiles.specs.Tiling.{place, same_place, neighbour, LinksAt}
use Rattle.life_tiles.proofs.Linked.{links_none, links_found}
use Rattle.life_tiles.proofs.Near.{within_reach}
use Rattle.life_tiles.proofs.Tiling.{item_of, found_index, not_found, tile_at_index}
use Rattle.life_tiles.proofs.linking.link_at.Goals as goal

abbrev none : Place
none = place (pos 0) (pos 0)

pub neighbour-requires-clause-near : goal.neighbour-requires-clause-near
neighbour-requires-clause-near c = within_reach _ (c.requires.near.each c.args.index _ (item_of c.as_slice.result.now _ c.args.index none c.as_slice.ensures.keys c.requires.within))

pub returns-in-Some : goal.returns-in-Some
returns-in-Some c =
    let p : Place = get_or c.as_slice.result.now c.args.index none in
    let at : slice_get c.args.places.now.keys c.args.index ≡ Some p = item_of c.as_slice.result.now _ c.args.index none c.as_slice.ensures.keys c.requires.within in
    let q = neighbour (get_or c.as_slice.result.now c.args.index none) c.args.direction in
    let search_is : position (same_place (neighbour (get_or c.as_slice.result.now c.args.index none) c.args.direction)) c.args.places.now.keys ≡ Some c.in-Some.other =
    subst (λ (r : Place). position (same_place r) c.args.places.now.keys ≡ Some c.in-Some.other) c.neighbour.ensures (sym c.in-Some.ensures.index) in
    let found = found_index c.args.places.now.keys q.column q.row c.in-Some.other search_is in
    let there : slice_get c.args.places.now.keys c.in-Some.other ≡ Some q =
    ap (slice_get c.args.places.now.keys) found.0 ∙ tile_at_index c.args.places.now.keys q.column q.row (subst (λ n. n < length c.args.places.now.keys) found.0 found.1) in
    let below = c.requires.direction in
    let sum : 9 * c.in-Some.other + (8 - c.args.direction) ≡ 9 * c.in-Some.other + 8 - c.args.direction = omega arith in
    subst (λ n. LinksAt c.args.places.now.keys c.args.beside.now (set (set c.args.beside.now (9 * c.args.index + c.args.direction) c.in-Some.other) n c.args.index) c.args.index c.args.direction) sum
    (links_found c.args.places.now.keys c.args.beside.now c.args.index c.args.direction p c.as_slice.ensures.unique c.requires.direction at c.requires.room c.in-Some.other there)

pub returns-in-None : goal.returns-in-None
returns-in-None c =
    let p : Place = get_or c.as_slice.result.now c.args.index none in
    let at : slice_get c.args.places.now.keys c.args.index ≡ Some p = item_of c.as_slice.result.now _ c.args.index none c.as_slice.ensures.keys c.requires.within in
    let q = neighbour (get_or c.as_slice.result.now c.args.index none) c.args.direction in
    let search_is : position (same_place (neighbour (get_or c.as_slice.result.now c.args.index none) c.args.direction)) c.args.places.now.keys ≡ None =
    subst (λ (r : Place). position (same_place r) c.args.places.now.keys ≡ None) c.neighbour.ensures (sym c.in-None.ensures.index) in
    links_none c.args.places.now.keys c.args.beside.now c.args.index c.args.direction p c.as_slice.ensures.unique c.requires.direction at c.requires.room c.requires.small
    (not_found c.args.places.now.keys q.column q.row search_is)
