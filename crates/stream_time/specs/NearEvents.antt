-- How far the shifts and places of a plan may be.
use Rattle.std.specs.Prelude.{ℕ, ◌^◌, List, Option}
use Rattle.std.specs.List.{AllByRecursion}
use Rattle.std.specs.declared.option.Option.TheVariants.{Some, None}
use Rattle.life_cells.specs.Boxes.{IsCellInRange}
use Rattle.life_cells.specs.declared.cell.Cell.{Cell}
use Rattle.event_times.specs.Early.{IsNearShift}
use Rattle.build_plan.specs.declared.event.Event.{Event}
use Rattle.build_plan.specs.declared.event.Plan.{Plan}
use Rattle.build_plan.specs.declared.event.Event.TheVariants.{Turn, Hit}

-- how far a place of a plan's hands may be: a book's farthest place, and the room and the side of a target beyond it
abbrev pub far_place : ℕ
far_place = 1073807360

abbrev pub IsNearPlace : Cell → Type 0
IsNearPlace at = IsCellInRange far_place at

-- the shift before a turn is in the span, and the place of the hand in the room
abbrev pub IsNearEvent : Event → Type 0
IsNearEvent (Turn number shift) = IsNearShift shift
IsNearEvent (Hit salvo place at) = IsNearPlace at

abbrev pub AreNearEvents : List Event → Type 0
AreNearEvents events = AllByRecursion IsNearEvent events

abbrev pub IsNearHand : Option Cell → Type 0
IsNearHand None = Unit {0}
IsNearHand (Some place) = IsNearPlace place

-- all numbers of a plan are near
pub record IsNearPlan (plan : Plan) : Type 0 where
  pub events : AreNearEvents plan.events.items
  pub first_hand : IsNearHand plan.first_hand
  pub back : IsCellInRange (2 ^ 41) plan.back
