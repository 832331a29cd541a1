-- How far the cells of a turn lie from the origin.
use Rattle.std.proofs.Common.{◌≡◌, ◌^◌, true, ℤ, arith}
use Rattle.std.proofs.lemmas.Int.{ints}
use Rattle.life_plane.specs.Plane.{Plane}
use Rattle.life_cells.specs.Boxes.{IsInRange}
use Rattle.book_parts.specs.Limits.{IsPlaced}
use Rattle.recipe_turn.specs.Range.{IsWithinReach}
use Rattle.recipe_turn.specs.StartLaws.{all_around}

-- a kind has coordinates that a step keeps
pub placed_in_range : (s : Plane) → IsPlaced s → IsInRange (2 ^ 61) s
placed_in_range s placed =
    all_around (2 ^ 61) s (λ x y h.
    let px = placed.x x y h in let py = placed.y x y h in
    record { left = omega (arith, ints); right = omega (arith, ints); above = omega (arith, ints); below = omega (arith, ints) })

-- a cell of a set in range
pub live_within : (s : Plane) → IsInRange (2 ^ 41) s → (x y : ℤ) → s x y ≡ true → IsWithinReach x y
live_within s h x y live = record { left = h.x_low x y live; right = h.x_high x y live; above = h.y_low x y live; below = h.y_high x y live }
