-- What gliders have left, taken apart into a product and the hand.
use Rattle.std.specs.Prelude.{◌≡◌}
use Rattle.std.specs.declared.option.Option.{Option}
use Rattle.std.specs.declared.option.Option.TheVariants.{Some, None}
use Rattle.life_plane.specs.Plane.{Plane, shift}
use Rattle.life_plane.specs.Apart.{Apart}
use Rattle.life_cells.specs.Cells.{alive, cell}
use Rattle.life_cells.specs.Firsts.{IsFirstOf}
use Rattle.life_cells.specs.declared.cell.Cell.{Cell}
use Rattle.life_islands.specs.Islands.{rest_of}
use Rattle.recipe_hit.specs.Sound.{IsWhole}
use Rattle.life_gliders.specs.Beyond.{IsPartOf}
use Rattle.find_salvo.specs.declared.outcome.Outcome.{Outcome}

-- the hand at a place, and what is left beside it there
abbrev pub hand_at : Plane → Cell → Plane
hand_at hand place = shift place.x place.y hand

abbrev pub beside_hand : Plane → Plane → Cell → Plane
beside_hand hand left place = rest_of left (hand_at hand place)

-- The hand stands at a place: it is a part of what is left, the rest is apart from it, and the rest is empty or one island.
pub record StandsAt (hand left : Plane) (place : Cell) : Type 0 where
  pub part : IsPartOf (hand_at hand place) left
  pub clear : Apart (beside_hand hand left place) (hand_at hand place)
  pub whole : IsWhole (beside_hand hand left place)

-- it stands nowhere
abbrev pub StandsNowhere : Plane → Plane → Type 0
StandsNowhere hand left = (place : Cell) → StandsAt hand left place → ⊥

-- the first place at which it stands
abbrev pub IsFirstStand : Plane → Plane → Cell → Type 0
IsFirstStand hand left place = IsFirstOf (λ x y. StandsAt hand left (cell x y)) place

-- What is left is a product and a hand so: the hand is at the first place at which it stands, and the product is the rest. Where it stands
-- nowhere there is no hand, and all that is left is the product, if it is empty or one island.
abbrev pub IsMadeUpOf : Plane → Plane → Plane → Option Cell → Type 0
IsMadeUpOf hand left product (Some place) = IsFirstStand hand left place × (product ≡ beside_hand hand left place)
IsMadeUpOf hand left product None = StandsNowhere hand left × (IsWhole left × (product ≡ left))

-- the outcome of what is left
abbrev pub IsOutcomeOf : Plane → Plane → Outcome → Type 0
IsOutcomeOf hand left outcome = IsMadeUpOf hand left (alive outcome.product) outcome.hand

-- there is none
abbrev pub HasNoOutcome : Plane → Plane → Type 0
HasNoOutcome hand left = (outcome : Outcome) → IsOutcomeOf hand left outcome → ⊥
