-- The plan of a book for a target.
use Rattle.std.specs.Prelude.{◌≡◌, ℕ, ◌≤◌, pos, List, [], ◌∷◌, ◌++◌, Option}
use Rattle.std.specs.declared.option.Option.TheVariants.{Some, None}
use Rattle.life_plane.specs.Plane.{Plane, nothing}
use Rattle.life_cells.specs.declared.cell.Cell.{Cell}
use Rattle.life_cells.specs.declared.bounds.Bounds.{Bounds}
use Rattle.life_islands.specs.Islands.{AreIslands}
use Rattle.life_islands.specs.declared.island.Island.{Island}
use Rattle.elbow_graph.specs.declared.elbow.Elbow.{Elbow}
use Rattle.elbow_graph.specs.Elbows.{elbow}
use Rattle.recipe_turn.specs.Checked.{raws}
use Rattle.recipe_book.specs.Checked.{CheckedEntries}
use Rattle.elbow_route.specs.Lists.{IsLeastClosing}
use Rattle.build_plan.specs.declared.event.Event.{Event}
use Rattle.build_plan.specs.declared.event.Plan.{Plan}
use Rattle.build_plan.specs.declared.placing.Placing.{Placing}
use Rattle.build_plan.specs.TurnEvents.{turn_events, gliders_of}
use Rattle.build_plan.specs.Stand.{Stand}
use Rattle.build_plan.specs.Usable.{Taken, IsTaken, SaysFarewell, stand_after}
use Rattle.build_plan.specs.Placing.{IsPlacing, moved_target, back_of}
use Rattle.book_parts.specs.declared.limits.TheConstants.{MOST_GLIDERS}

-- the most stream gliders of a plan
abbrev pub most_gliders : ℕ
most_gliders = MOST_GLIDERS

-- at first: the start elbow at shift 0, no hand, nothing built, and all islands left
abbrev pub first_stand : CheckedEntries → List Island → Stand
first_stand book islands = record { elbow = elbow book.start (pos 0); place = None; built = nothing; left = islands }

-- these are taken one after the other, and lead from one stand to another
abbrev pub TakeOn : CheckedEntries → Bounds → Stand → List Taken → Stand → Type 0
TakeOn book room from [] to = to ≡ from
TakeOn book room from (taken ∷ more) to = IsTaken book room from taken × TakeOn book room (stand_after from taken) more to

-- the events of all that is taken
abbrev pub taken_events : List Taken → List Event
taken_events [] = []
taken_events (taken ∷ more) = taken.events ++ taken_events more

-- the hand before the first salvo stands at its place
abbrev pub first_place : List Taken → Option Cell
first_place [] = None
first_place (taken ∷ more) = Some taken.place

-- where the islands are all built and the hand has left: what was taken, where the planner stood then, the events of the farewell, and the elbow
-- after them
pub record Course : Type 0 where
  pub taken : List Taken
  pub last : Stand
  pub farewell : List Event
  pub elbow : Elbow

-- a course for these islands: salvos are taken until no island is left; then the farewell, where a hand is left
pub record IsCourse (book : CheckedEntries) (room : Bounds) (islands : List Island) (course : Course) : Type 0 where
  pub takes : TakeOn book room (first_stand book islands) course.taken course.last
  pub all_built : course.last.left ≡ []
  pub farewell : SaysFarewell book room course.last.built course.last.place course.last.elbow course.farewell course.elbow

-- the events of a course and of the list that closes its elbow
abbrev pub all_events : CheckedEntries → Course → List ℕ → List Event
all_events book course closing = taken_events course.taken ++ (course.farewell ++ turn_events (raws book.turns) course.elbow closing)

-- the stream gliders of events
abbrev pub gliders_in : CheckedEntries → List Event → ℕ
gliders_in book events = gliders_of (raws book.turns) events

-- A plan for the islands of a target at its place: a course for them and the least closing list, with few enough stream gliders.
pub record IsPlanFor (book : CheckedEntries) (placing : Placing) (islands : List Island) (plan : Plan) : Type 0 where
  pub course : Course
  pub is_course : IsCourse book placing.room islands course
  pub closing : List ℕ
  pub least : IsLeastClosing (raws book.turns) book.settings.span course.elbow closing
  pub events_are : plan.events.items ≡ all_events book course closing
  pub few : gliders_in book plan.events.items ≤ most_gliders
  pub first_is : plan.first_hand ≡ first_place course.taken
  pub back_is : plan.back ≡ back_of placing.by

-- A plan of the book for a target.
pub record IsPlan (book : CheckedEntries) (target : Plane) (plan : Plan) : Type 0 where
  pub placing : Placing
  pub is_placing : IsPlacing book.settings target placing
  pub islands : List Island
  pub islands_are : AreIslands (moved_target target placing.by) islands
  pub plans : IsPlanFor book placing islands plan

-- two plans have the same events, first hand and shift back
pub record SamePlan (a b : Plan) : Type 0 where
  pub events : a.events.items ≡ b.events.items
  pub first_hand : a.first_hand ≡ b.first_hand
  pub back : a.back ≡ b.back
