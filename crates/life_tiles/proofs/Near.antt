-- Places near the middle.
use Rattle.std.proofs.Common.{◌^◌, ◌<◌, ℕ, arith}
use Rattle.std.proofs.lemmas.Int.{ints}
use Rattle.life_tiles.specs.declared.place.Place.{Place}
use Rattle.life_tiles.specs.Tiling.{neighbour, IsWithin}

-- a place that is near has its neighbours within reach
pub within_reach : (p : Place) → IsWithin (2 ^ 56) p → IsWithin (2 ^ 60) p
within_reach p near = let a = near.left in let b = near.right in let d = near.top in let e = near.bottom in record { left = omega (arith, ints); right = omega (arith, ints); top = omega (arith, ints); bottom = omega (arith, ints) }

pub close_reach : (p : Place) → IsWithin (2 ^ 55) p → IsWithin (2 ^ 60) p
close_reach p near = let a = near.left in let b = near.right in let d = near.top in let e = near.bottom in record { left = omega (arith, ints); right = omega (arith, ints); top = omega (arith, ints); bottom = omega (arith, ints) }

-- the neighbours of a place that is close are near
pub neighbour_near : (p : Place) (direction : ℕ) → direction < 9 → IsWithin (2 ^ 55) p → IsWithin (2 ^ 56) (neighbour p direction)
neighbour_near p direction h near = let a = near.left in let b = near.right in let d = near.top in let e = near.bottom in record { left = omega (arith, ints); right = omega (arith, ints); top = omega (arith, ints); bottom = omega (arith, ints) }
