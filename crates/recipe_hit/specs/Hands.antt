-- A hand: what the gliders of a salvo strike.
use Rattle.life_plane.specs.Plane.{Plane, IsStill}
use Rattle.book_parts.specs.Proper.{IsProperHand}

-- a hand: it lives right of and below its place, within the limits, and is still
pub record IsHand (s : Plane) : Type 0 where
  pub proper : IsProperHand s
  pub still : IsStill s
