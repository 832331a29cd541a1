use Rattle.std.proofs.Common.{◌≡◌, List, length, refl, ap, arith}
use Rattle.life_tiles.specs.declared.place.Place.{Place}
use Rattle.life_tiles.proofs.Rooms.{keeps_items, keeps_places, grown, grown_so_far}
use Rattle.life_tiles.proofs.tile_map.TileMap.grow.Goals as goal

pub returns-in_err-lengthen-clause-makes : goal.returns-in_err-lengthen-clause-makes
returns-in_err-lengthen-clause-makes c =
    grown_so_far _ _ c.requires (keeps_places _) (keeps_places _) c.lengthen.ensures.rows c.lengthen.ensures.next (keeps_items _ _) (keeps_items _ _) (keeps_items _ _) refl refl

pub returns-in_err-fill_marks-clause-makes : goal.returns-in_err-fill_marks-clause-makes
returns-in_err-fill_marks-clause-makes c =
    grown_so_far _ _ c.requires (keeps_places _) (keeps_places _) c.lengthen.ensures.rows c.lengthen.ensures.next c.fill_marks.ensures.beside c.fill_marks.ensures.awake c.fill_marks.ensures.waking refl refl

pub returns-in_err-reserve-clause-makes : goal.returns-in_err-reserve-clause-makes
returns-in_err-reserve-clause-makes c =
    grown_so_far _ _ c.requires c.reserve.ensures.places c.reserve.ensures.kept c.lengthen.ensures.rows c.lengthen.ensures.next c.fill_marks.ensures.beside c.fill_marks.ensures.awake c.fill_marks.ensures.waking refl refl

pub returns-clause-makes : goal.returns-clause-makes
returns-clause-makes c =
    let few = c.requires.room.few in
    let more = c.if-room-self.false in
    let count : length c.reserve.new.places.keys ≡ length c.args.self.now.places.keys = ap (λ (ks : List Place). length ks) c.reserve.ensures.places.keys in
    let a = c.in_ok-reserve.ensures.places_room in
    let b = c.in_ok-reserve.ensures.kept_room in
    let d = c.in_ok-lengthen.ensures.rows_long in
    let e = c.in_ok-lengthen.ensures.next_long in
    let f = c.in_ok-fill_marks.ensures.beside_long in
    let g = c.in_ok-fill_marks.ensures.awake_long in
    let h = c.in_ok-fill_marks.ensures.waking_long in
    grown _ _ c.requires c.reserve.ensures.places c.reserve.ensures.kept c.lengthen.ensures.rows c.lengthen.ensures.next c.fill_marks.ensures.beside c.fill_marks.ensures.awake c.fill_marks.ensures.waking refl
    (omega arith) (record { few = omega arith; places = omega arith; kept = omega arith; rows = omega arith; next = omega arith; beside = omega arith; awake = omega arith; waking = omega arith })
