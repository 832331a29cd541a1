-- A hit that may come strikes what stands at the hand.
use Rattle.std.specs.Prelude.{◌≡◌}
use Rattle.life_plane.specs.Plane.{Plane, shift}
use Rattle.recipe_hit.specs.Strike.{IsHit}
use Rattle.plan_facts.specs.Happenings.{SalvoHit}
use Rattle.plan_facts.specs.State.{Hand, hand_plane}

-- the hit is one of this plane, which stands at the hand, moved to the hit's place
pub record StrikesThere (hand : Plane) (at : Hand) (h : SalvoHit) : Type 0 where
  pub struck : Plane
  pub stands : hand_plane hand at ≡ shift h.place.x h.place.y struck
  pub is_hit : IsHit struck h.hit.frame.lane h.hit
