use Rattle.std.proofs.Common.{◌≡◌, ◌*◌, ◌<◌, List, length, ap, ◌∙◌, arith}
use Rattle.life_kernel.specs.Words.{plane_of_words}
use Rattle.life_tiles.specs.declared.place.Place.{Place}
use Rattle.life_tiles.specs.Tiled.{tile_count}
use Rattle.life_tiles.specs.Tiling.{set_of}
use Rattle.life_tiles.proofs.Counted.{pruned_count}
use Rattle.life_tiles.proofs.Evolved.{ok_unless}
use Rattle.life_tiles.proofs.Lists.{same_sets}
use Rattle.life_tiles.proofs.Settled.{settled_kept, settled_fresh}
use Rattle.life_tiles.proofs.growing.make_all_neighbours.Goals as goal

pub returns-then-is_ok-clause-settled : goal.returns-then-is_ok-clause-settled
returns-then-is_ok-clause-settled c = settled_kept _ _ c.make_neighbours.ensures.makes c.requires.settled

pub make_neighbours-requires-2-clause-settled : goal.make_neighbours-requires-2-clause-settled
make_neighbours-requires-2-clause-settled c = settled_kept _ _ c.loosen.ensures.makes (settled_fresh _ c.prune.ensures.recent (c.prune.ensures.fresh (c.make_neighbours.ensures.makes.quiet c.requires.settled.quiet)))

pub returns-clause-settled : goal.returns-clause-settled
returns-clause-settled c =
    settled_kept _ _ c.make_neighbours-2.ensures.makes
    (settled_kept _ _ c.loosen.ensures.makes (settled_fresh _ c.prune.ensures.recent (c.prune.ensures.fresh (c.make_neighbours.ensures.makes.quiet c.requires.settled.quiet))))

pub returns-clause-succeeds : goal.returns-clause-succeeds
returns-clause-succeeds c spare = ok_unless c.make_neighbours-2.result (c.loosen.new.self.room < 9 * length c.loosen.new.self.places.keys) c.make_neighbours-2.ensures.full (λ tight.
    let pruned = pruned_count c.prune.new.tiles c.prune.ensures.tiled c.prune.ensures.lives in
    let same : set_of c.prune.new.tiles ≡ set_of c.args.tiles.now =
    same_sets c.prune.new.tiles c.args.tiles.now c.prune.ensures.tiled c.requires.tiled (ap plane_of_words (c.prune.ensures.words ∙ c.make_neighbours.ensures.makes.words)) in
    let first = c.make_neighbours.ensures.makes.room in
    let kept = c.prune.ensures.room in
    let more = c.loosen.ensures.makes.room in
    let keys : length c.loosen.new.self.places.keys ≡ length c.prune.new.tiles.places.keys = ap (λ (ks : List Place). length ks) c.loosen.ensures.same in
    absurd (omega (arith, ap tile_count same)))
