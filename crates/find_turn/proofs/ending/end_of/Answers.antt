use Rattle.std.proofs.Common.{◌≡◌, ◌∙◌, ap, sym, subst, w64, to_z, of_z, arith}
use Rattle.std.proofs.lemmas.Int.{ints}
use Rattle.life_plane.specs.LookUpLaws.{not_if_false}
use Rattle.life_plane.specs.Salvo.{salvo_glider}
use Rattle.life_cells.specs.Boxes.{IsInRange}
use Rattle.life_cells.specs.Cells.{alive}
use Rattle.life_gliders.specs.Beyond.{beyond}
use Rattle.book_parts.specs.declared.turn.TurnEnd.TheVariants.{Move, Emit}
use Rattle.find_turn.specs.Standing.{IsFirstEnd, IsFirstStanding, NoneStands}
use Rattle.find_turn.proofs.Ends.{IsFront, no_move, is_move, not_in_front, no_throw, is_throw}
use Rattle.find_turn.proofs.Throwing.{thrown_near, behind_range, read_wall, read_lane, read_index}
use Rattle.find_turn.proofs.ending.end_of.Goals as goal

pub returns-in_default-first_standing : goal.returns-in_default-first_standing
returns-in_default-first_standing c =
    let s = alive c.args.cells.now in
    let wall = read_wall c.args.settings.now c.requires.settings in
    no_move c.args.settings.now c.args.kinds.now c.requires.valid s c.requires.lives (λ l j e. c.in_default.ensures.none l j (ap (λ w. beyond w s) wall ∙ e)) c.in_default-first_standing.ensures

pub returns-in_default : goal.returns-in_default
returns-in_default c =
    let s = alive c.args.cells.now in
    let wall = read_wall c.args.settings.now c.requires.settings in
    let along : to_z w64 (of_z w64 c.in-Some-first_standing.shift) ≡ c.in-Some-first_standing.shift = omega (arith, ints) in
    subst (λ a. IsFirstEnd c.args.settings.now c.args.kinds.now s (Move c.in-Some-first_standing.kind a)) (sym along)
    (is_move c.args.settings.now c.args.kinds.now c.requires.valid s c.requires.lives (λ l j e. c.in_default.ensures.none l j (ap (λ w. beyond w s) wall ∙ e)) c.in-Some-first_standing.kind c.in-Some-first_standing.shift c.in-Some-first_standing.ensures)

pub is_in_front-requires : goal.is_in_front-requires
is_in_front-requires c =
    let s = alive c.args.cells.now in
    let wall = read_wall c.args.settings.now c.requires.settings in
    let lane = c.in-Some.lane in let j = c.in-Some.j in
    let near = thrown_near c.args.settings.now.wall lane j s c.requires.range (ap (λ w. beyond w s) (sym wall) ∙ c.in-Some.ensures.some) in
    record {
      settings = c.requires.settings;
      lane_low = rw (read_lane lane j near) near.lane_low;
      lane_high = rw (read_lane lane j near) near.lane_high;
      index_low = rw (read_index lane j near) near.index_low;
      index_high = rw (read_index lane j near) near.index_high;
    }

pub returns-then-not-is_in_front : goal.returns-then-not-is_in_front
returns-then-not-is_in_front c =
    let s = alive c.args.cells.now in
    let wall = read_wall c.args.settings.now c.requires.settings in
    let lane = c.in-Some.lane in let j = c.in-Some.j in
    let glider : beyond c.args.settings.now.wall s ≡ salvo_glider lane j = ap (λ w. beyond w s) (sym wall) ∙ c.in-Some.ensures.some in
    let near = thrown_near c.args.settings.now.wall lane j s c.requires.range glider in
    not_in_front c.args.settings.now c.args.kinds.now c.requires.valid s c.requires.lives lane j glider
    (λ front. not_if_false _ _ c.if-not-is_in_front.true c.is_in_front.ensures (subst (λ z. IsFront c.args.settings.now z (to_z w64 (of_z w64 j))) (sym (read_lane lane j near)) (subst (IsFront c.args.settings.now lane) (sym (read_index lane j near)) front)))

pub first_standing-requires-2-clause-range : goal.first_standing-requires-2-clause-range
first_standing-requires-2-clause-range c = subst (IsInRange _) (sym c.in_ok-elbow.ensures) (behind_range _ c.args.settings.now.wall _ c.requires.range)

pub returns-in_default-first_standing-2 : goal.returns-in_default-first_standing-2
returns-in_default-first_standing-2 c =
    let s = alive c.args.cells.now in
    let wall = read_wall c.args.settings.now c.requires.settings in
    no_throw c.args.settings.now c.args.kinds.now c.requires.valid s c.requires.lives c.in-Some.lane c.in-Some.j (ap (λ w. beyond w s) (sym wall) ∙ c.in-Some.ensures.some)
    (subst (NoneStands c.args.kinds.now) c.in_ok-elbow.ensures c.in_default-first_standing-2.ensures)

pub returns : goal.returns
returns c =
    let s = alive c.args.cells.now in
    let wall = read_wall c.args.settings.now c.requires.settings in
    let lane = c.in-Some.lane in let j = c.in-Some.j in
    let kind = c.in-Some-first_standing-2.kind in let advance = c.in-Some-first_standing-2.shift in
    let glider : beyond c.args.settings.now.wall s ≡ salvo_glider lane j = ap (λ w. beyond w s) (sym wall) ∙ c.in-Some.ensures.some in
    let near = thrown_near c.args.settings.now.wall lane j s c.requires.range glider in
    let along : to_z w64 (of_z w64 c.in-Some-first_standing-2.shift) ≡ c.in-Some-first_standing-2.shift = omega (arith, ints) in
    let front : IsFront c.args.settings.now (to_z w64 (of_z w64 lane)) (to_z w64 (of_z w64 j)) = c.is_in_front.ensures.0 c.if-not-is_in_front.false in
    subst (IsFirstEnd c.args.settings.now c.args.kinds.now s) (λ i. Emit kind (sym along i) (sym (read_lane lane j near) i) (sym (read_index lane j near) i))
    (is_throw c.args.settings.now c.args.kinds.now c.requires.valid s c.requires.lives lane j glider
    (subst (λ z. IsFront c.args.settings.now z j) (read_lane lane j near) (subst (IsFront c.args.settings.now (to_z w64 (of_z w64 lane))) (read_index lane j near) front))
    kind advance (subst (λ p. IsFirstStanding c.args.kinds.now p kind advance) c.in_ok-elbow.ensures c.in-Some-first_standing-2.ensures))
