use Rattle.std.proofs.Common.{◌≡◌, ◌*◌, ◌<◌, length, subst, arith, inl, inr}
use Rattle.std.proofs.lemmas.Bool.{cases_lt}
use Rattle.life_tiles.specs.Tiling.{IsSurrounded}
use Rattle.life_tiles.proofs.Evolved.{on_err}
use Rattle.life_tiles.proofs.Grown.{closed_all, surrounded_still, surrounded_from}
use Rattle.life_tiles.proofs.Rooms.{makes_both, kept_length}
use Rattle.life_tiles.proofs.growing.make_neighbours.Goals as goal

pub make_about-requires-clause-within : goal.make_about-requires-clause-within
make_about-requires-clause-within c =
    let longer = kept_length _ _ c.tiles.invariant.makes in
    omega (arith, c.len-count.ensures.len)

pub tiles-preserved : goal.tiles-preserved
tiles-preserved c =
    let makes = c.tiles.invariant.makes in
    record {
      makes = makes_both _ _ _ makes c.make_about.ensures.makes;
      done = λ i h. elim (cases_lt i c.tiles.index) [
        | inl lt ↦ surrounded_still _ _ _ i c.make_about.ensures.makes (c.tiles.invariant.done i lt)
        | inr ge ↦
            let same : c.tiles.index ≡ i = omega arith in
            let within : i < length c.args.tiles.now.places.keys = omega (arith, c.len-count.ensures.len) in
            surrounded_from _ _ _ i within makes (subst (IsSurrounded c.tiles.tiles c.make_about.new.tiles) same c.in_ok-make_about.ensures.about)
      ];
      few = (let few = c.tiles.invariant.few in omega (arith, c.make_about.ensures.few));
    }

pub returns-clause-closed : goal.returns-clause-closed
returns-clause-closed c =
    closed_all _ _ c.requires.tiled c.requires.settled c.tiles.invariant.makes (λ i h. c.tiles.invariant.done i (omega (arith, c.len-count.ensures.len)))

pub returns-in_err-make_about-clause-full : goal.returns-in_err-make_about-clause-full
returns-in_err-make_about-clause-full c =
    let few = c.tiles.invariant.few in
    let none = c.in_err-make_about.ensures.none in
    let full = c.in_err-make_about.ensures.full in
    let before = c.tiles.invariant.makes.room in
    let more = c.make_about.ensures.makes.room in
    let tight : c.args.tiles.now.room < 9 * length c.args.tiles.now.places.keys = omega (arith, c.len-count.ensures.len) in
    on_err _ tight

pub returns-in_err-make_about-clause-makes : goal.returns-in_err-make_about-clause-makes
returns-in_err-make_about-clause-makes c = makes_both _ _ _ c.tiles.invariant.makes c.make_about.ensures.makes
