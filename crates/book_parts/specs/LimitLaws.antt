-- Numbers of a book fit what they are read as.
use Rattle.std.proofs.Common.{◌≡◌, ℤ, arith, w64, to_z, of_z}
use Rattle.std.proofs.lemmas.Int.{ints}
use Rattle.book_parts.specs.Limits.{IsCoordinate}
use Rattle.book_parts.specs.Proper.{IsDelay, IsIndex}

-- a number that is read is what it was
pub coordinate_read : (z : ℤ) → IsCoordinate z → to_z w64 (of_z w64 z) ≡ z
coordinate_read z h = let low = h.low in let high = h.high in omega (arith, ints)

pub index_read : (z : ℤ) → IsIndex z → to_z w64 (of_z w64 z) ≡ z
index_read z h = let low = h.low in let high = h.high in omega (arith, ints)

pub delay_read : (z : ℤ) → IsDelay z → to_z w64 (of_z w64 z) ≡ z
delay_read z h = let low = h.low in let high = h.high in omega (arith, ints)
