-- A sound salvo: its hits follow one another, and leave what it states.
use Rattle.std.specs.Prelude.{◌≡◌, ◌⊎◌, ℤ, List, [], ◌∷◌}
use Rattle.std.specs.declared.option.Option.{Option}
use Rattle.std.specs.declared.option.Option.TheVariants.{Some, None}
use Rattle.life_plane.specs.Plane.{Plane, nothing, union, shift}
use Rattle.life_plane.specs.Apart.{Apart}
use Rattle.life_cells.specs.Cells.{alive}
use Rattle.life_cells.specs.declared.cell.Cell.{Cell}
use Rattle.life_islands.specs.Islands.{IsOneIsland}
use Rattle.book_parts.specs.declared.salvo.RawSalvo.{RawSalvo}
use Rattle.recipe_hit.specs.declared.frame.Hit.{Hit}
use Rattle.recipe_hit.specs.Strike.{IsHit}

-- a glider of each lane, one after the other, strikes what the hit before has left
abbrev pub AreHits : Plane → List ℤ → List Hit → Type 0
AreHits struck [] [] = Unit {0}
AreHits struck (lane ∷ lanes) (hit ∷ hits) = IsHit struck lane hit × AreHits (alive hit.after) lanes hits
AreHits struck lanes hits = ⊥

-- what the last of these hits leaves
abbrev pub what_is_left : Plane → List Hit → Plane
what_is_left struck [] = struck
what_is_left struck (hit ∷ hits) = what_is_left (alive hit.after) hits

-- the hand where a salvo leaves it, if it leaves one
abbrev pub left_hand : Plane → Option Cell → Plane
left_hand hand None = nothing
left_hand hand (Some place) = shift place.x place.y hand

-- the product and the hand that a salvo states
abbrev pub stated_end : Plane → RawSalvo → Plane
stated_end hand salvo = union (alive salvo.product) (left_hand hand salvo.hand)

-- nothing, or one island
abbrev pub IsWhole : Plane → Type 0
IsWhole s = (s ≡ nothing) ⊎ IsOneIsland s

-- A salvo is sound with these hits: they exist, the last one leaves exactly the product and the hand, the product is whole, and both are apart.
pub record IsSound (hand : Plane) (salvo : RawSalvo) (hits : List Hit) : Type 0 where
  pub hits_are : AreHits hand salvo.lanes hits
  pub ends : what_is_left hand hits ≡ stated_end hand salvo
  pub whole : IsWhole (alive salvo.product)
  pub clear : Apart (alive salvo.product) (left_hand hand salvo.hand)

-- it is sound with some hits
abbrev pub IsSoundSalvo : Plane → RawSalvo → Type 0
IsSoundSalvo hand salvo = (hits : List Hit) × IsSound hand salvo hits
