-- The salvos of a list one after the other, each with the place of the hand before it.
use Rattle.std.specs.Prelude.{◌≡◌, ℕ, List, [], ◌∷◌}
use Rattle.std.specs.declared.option.Option.{Option}
use Rattle.std.specs.declared.option.Option.TheVariants.{Some}
use Rattle.std.specs.List.{AllByRecursion}
use Rattle.life_cells.specs.Boxes.{InBox}
use Rattle.life_cells.specs.declared.cell.Cell.{Cell}
use Rattle.elbow_graph.specs.Numbered.{IsNumbered}
use Rattle.recipe_hit.specs.Checked.{Struck}
use Rattle.hand_route.specs.Clearings.{IsSalvoClear}
use Rattle.hand_route.specs.Moves.{Site, BuildsNothing, leaves_hand}

-- a salvo at the hand: its number, the salvo, and the place of the hand before it
pub record Visit : Type 0 where
  pub number : ℕ
  pub salvo : Struck
  pub place : Cell

-- these are the visits of the salvos with these numbers, from a hand at this place, if there is a hand, to what the last one leaves
abbrev pub AreVisits : List Struck → Option Cell → List ℕ → List Visit → Option Cell → Type 0
AreVisits salvos from [] [] to = to ≡ from
AreVisits salvos (Some place) (k ∷ ks) (v ∷ vs) to = (v.number ≡ k) × ((v.place ≡ place) × (IsNumbered salvos k v.salvo × AreVisits salvos (leaves_hand v.salvo place) ks vs to))
AreVisits salvos from ks vs to = ⊥

-- a visit builds nothing, its place is in the room, and each of its hits is clear there of what is built
pub record IsFree (site : Site) (v : Visit) : Type 0 where
  pub builds_nothing : BuildsNothing v.salvo
  pub in_room : InBox site.room v.place.x v.place.y
  pub clear : IsSalvoClear site.settings site.built v.salvo v.place

-- the salvos of a list are visited from a place to what the last one leaves, and each visit is free
pub record GoesFree (site : Site) (from : Cell) (list : List ℕ) (to : Option Cell) : Type 0 where
  pub visits : List Visit
  pub are : AreVisits site.salvos (Some from) list visits to
  pub free : AllByRecursion (IsFree site) visits
