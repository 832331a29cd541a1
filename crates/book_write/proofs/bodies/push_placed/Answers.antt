-- The box's corner is near, so the cells can be moved from it to (0,0).
use Rattle.std.proofs.Common.{◌≡◌, sym, ap, subst, ◌^◌, [], ◌++◌, ◌∷◌, refl, arith, lit≤, lit<}
use Rattle.std.proofs.lemmas.Int.{ints}
use Rattle.life_plane.specs.Plane.{Plane}
use Rattle.life_cells.specs.declared.cell.Cell.{Cell}
use Rattle.life_cells.specs.Cells.{cell, alive}
use Rattle.life_cells.specs.Boxes.{IsInRange}
use Rattle.life_cells.specs.BoxLaws.{can_move, range_wider}
use Rattle.rle_items.specs.Words.{IsNotNegative}
use Rattle.book_write.specs.Laid.{spaced}
use Rattle.book_write.specs.Parts.{IsBodyWord, place_words}
use Rattle.book_write.proofs.Laying.{words_laid}
use Rattle.book_write.proofs.Moving.{range_placed, near_box, moved_as, moved_quadrant, moved_range}
use Rattle.book_write.proofs.bodies.push_placed.Goals as goal
use Rattle.book_parts.specs.Limits.{farthest}

pub overflow_sub-corner : goal.overflow_sub-corner
overflow_sub-corner c =
    let near = near_box (alive c.args.cells.now) c.args.bounds c.requires.least c.requires.placed in
    let x = ap (λ (p : Cell). p.x) c.new-corner.ensures in
    let low = near.left.low in let high = near.left.high in
    omega (arith, ints)

pub overflow_sub-corner-2 : goal.overflow_sub-corner-2
overflow_sub-corner-2 c =
    let near = near_box (alive c.args.cells.now) c.args.bounds c.requires.least c.requires.placed in
    let y = ap (λ (p : Cell). p.y) c.new-corner.ensures in
    let low = near.top.low in let high = near.top.high in
    omega (arith, ints)

pub shift-requires : goal.shift-requires
shift-requires c =
    let near = near_box (alive c.args.cells.now) c.args.bounds c.requires.least c.requires.placed in
    let x = ap (λ (p : Cell). p.x) c.new-corner.ensures in
    let y = ap (λ (p : Cell). p.y) c.new-corner.ensures in
    let left = near.left.low in let right = near.left.high in let top = near.top.low in let bottom = near.top.high in
    can_move farthest farthest _ _ (alive c.args.cells.now) (range_placed (alive c.args.cells.now) c.requires.placed) (lit< tt) (omega (arith, ints)) (omega (arith, ints)) (omega (arith, ints)) (omega (arith, ints))

pub push_body-requires-clause-range : goal.push_body-requires-clause-range
push_body-requires-clause-range c =
    let near = near_box (alive c.args.cells.now) c.args.bounds c.requires.least c.requires.placed in
    let x = ap (λ (p : Cell). p.x) c.new-corner.ensures in
    let y = ap (λ (p : Cell). p.y) c.new-corner.ensures in
    let left = near.left.low in let right = near.left.high in let top = near.top.low in let bottom = near.top.high in
    let moved = moved_as (alive c.args.cells.now) (alive c.in_ok-moved.moved) c.args.bounds _ _ c.in_ok-moved.ensures (omega (arith, ints)) (omega (arith, ints)) in
    subst (λ (s : Plane). IsInRange (2 ^ 58) s) (sym moved)
    (range_wider (2 ^ 31) (2 ^ 58) _ (moved_range (alive c.args.cells.now) c.args.bounds c.requires.least c.requires.placed) (lit≤ tt))

pub push_body-requires-clause-quadrant : goal.push_body-requires-clause-quadrant
push_body-requires-clause-quadrant c =
    let near = near_box (alive c.args.cells.now) c.args.bounds c.requires.least c.requires.placed in
    let x = ap (λ (p : Cell). p.x) c.new-corner.ensures in
    let y = ap (λ (p : Cell). p.y) c.new-corner.ensures in
    let left = near.left.low in let right = near.left.high in let top = near.top.low in let bottom = near.top.high in
    let moved = moved_as (alive c.args.cells.now) (alive c.in_ok-moved.moved) c.args.bounds _ _ c.in_ok-moved.ensures (omega (arith, ints)) (omega (arith, ints)) in
    subst (λ (s : Plane). IsNotNegative s) (sym moved) (moved_quadrant (alive c.args.cells.now) c.args.bounds c.requires.least)

pub returns : goal.returns
returns c =
    let near = near_box (alive c.args.cells.now) c.args.bounds c.requires.least c.requires.placed in
    let x = ap (λ (p : Cell). p.x) c.new-corner.ensures in
    let y = ap (λ (p : Cell). p.y) c.new-corner.ensures in
    let left = near.left.low in let right = near.left.high in let top = near.top.low in let bottom = near.top.high in
    let moved = moved_as (alive c.args.cells.now) (alive c.in_ok-moved.moved) c.args.bounds _ _ c.in_ok-moved.ensures (omega (arith, ints)) (omega (arith, ints)) in
    let corner_x : c.new-corner.result.x ≡ c.args.bounds.left = omega (arith, ints) in
    let corner_y : c.new-corner.result.y ≡ c.args.bounds.top = omega (arith, ints) in
    let corner : c.new-corner.result ≡ cell c.args.bounds.left c.args.bounds.top = (λ i. record { y = corner_y i; x = corner_x i }) in
    let place = subst (λ (p : Cell). c.push_place.new.text.items ≡ c.args.text.now.items ++ spaced (place_words p)) corner c.in_ok-push_place.ensures in
    let body = c.in_ok-push_body.ensures in
    let drawn = subst (λ (s : Plane). IsBodyWord s body.0) moved body.1.1 in (
      place_words (cell c.args.bounds.left c.args.bounds.top) ++ body.0,
      (
        words_laid _ _ (place_words (cell c.args.bounds.left c.args.bounds.top) ∷ (body.0 ∷ [])) (_, (place, (_, (body.1.0, refl)))),
        record { box = c.args.bounds; drawn = body.0; box_is = c.requires.least; drawn_is = drawn; words_are = refl },
      ),
    )
