-- Where a plan has hits: for a target with an island, and for no other.
use Rattle.std.specs.Prelude.{◌≡◌, List, [], ◌∷◌}
use Rattle.std.specs.declared.option.Option.TheVariants.{Some, None}
use Rattle.life_cells.specs.declared.cell.Cell.{Cell}
use Rattle.life_islands.specs.declared.island.Island.{Island}
use Rattle.build_plan.specs.declared.event.Event.{Event}
use Rattle.build_plan.specs.declared.event.Event.TheVariants.{Turn, Hit}
use Rattle.build_plan.specs.declared.event.Plan.{Plan}

-- one of the events is a hit
abbrev pub HasHit : List Event → Type 0
HasHit [] = ⊥
HasHit (Turn number shift ∷ events) = HasHit events
HasHit (Hit number place at ∷ events) = Unit {0}

-- a plan for these islands: where there is none, it has no hand and no hit; else it has a first hand, and hits
abbrev pub HitsForIslands : List Island → Plan → Type 0
HitsForIslands [] plan = (plan.first_hand ≡ None) × (HasHit plan.events.items → ⊥)
HitsForIslands (island ∷ islands) plan = ((place : Cell) × (plan.first_hand ≡ Some place)) × HasHit plan.events.items
