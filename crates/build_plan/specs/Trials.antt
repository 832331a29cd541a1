-- A search for a salvo that is usable for the first island left, and what it comes to.
use Rattle.std.specs.Prelude.{◌≡◌, ℕ, ◌≤◌, ◌^◌, Bool, true, false, IsTrue, List, [], ◌∷◌, length, Option}
use Rattle.std.specs.List.{AllByRecursion}
use Rattle.std.specs.declared.option.Option.TheVariants.{Some, None}
use Rattle.life_plane.specs.Plane.{Plane, nothing, union}
use Rattle.life_cells.specs.declared.cell.Cell.{Cell}
use Rattle.life_cells.specs.declared.bounds.Bounds.{Bounds}
use Rattle.life_cells.specs.Boxes.{InBox, IsInRange, IsCellInRange}
use Rattle.life_cells.specs.Cells.{alive}
use Rattle.life_islands.specs.Islands.{IsNoted}
use Rattle.life_islands.specs.Order.{AreInOrder}
use Rattle.life_islands.specs.Shapes.{IsShapeOf}
use Rattle.life_islands.specs.declared.island.Island.{Island}
use Rattle.elbow_graph.specs.declared.elbow.Elbow.{Elbow}
use Rattle.hand_route.specs.Clearings.{IsSalvoClear}
use Rattle.hand_route.specs.Moves.{Site, leaves_hand}
use Rattle.recipe_hit.specs.Checked.{Struck}
use Rattle.recipe_book.specs.Checked.{CheckedEntries}
use Rattle.build_plan.specs.declared.event.Event.{Event}
use Rattle.build_plan.specs.declared.search.Search.{Search}
use Rattle.build_plan.specs.declared.trial.Trial.{Trial}
use Rattle.build_plan.specs.declared.walk.Walk.{Walk}
use Rattle.build_plan.specs.Planners.{IsPlanner, HandLabels, AreWays}
use Rattle.build_plan.specs.ServedWalk.{AddsEvents, ServedBy}
use Rattle.build_plan.specs.Stand.{Stand}
use Rattle.build_plan.specs.Usable.{site_of, Taken, product_of, hand_after, IsWayIn, way_throws, SaysFarewell, CanSayFarewell, IsUsable}

-- a hand may stand there as a salvo begins, and be left there: in the room, and gone only at the last island
abbrev pub MayBeLeft : Bounds → Option Cell → Type 0 → Type 0
MayBeLeft room None IsLast = IsLast
MayBeLeft room (Some place) IsLast = InBox room place.x place.y

abbrev pub HasRoom : Bounds → Cell → Option Cell → Bool → Type 0
HasRoom room at left is_last = InBox room at.x at.y × MayBeLeft room left (IsTrue is_last)

-- a hand, if there is one, stands in the room
abbrev pub IsHandIn : Bounds → Option Cell → Type 0
IsHandIn room None = Unit {0}
IsHandIn room (Some place) = InBox room place.x place.y

-- islands of some plane, in order
pub record AreIslandsOf (target : Plane) (left : List Island) : Type 0 where
  pub noted : AllByRecursion (IsNoted target) left
  pub in_order : AreInOrder left

-- some events were added
abbrev pub AddsSome : Walk → Walk → Type 0
AddsSome old new = (more : List Event) × AddsEvents old new more

-- where its hand moves
abbrev pub search_site : Search → Site
search_site search = site_of search.planner.now.book.now search.planner.now.placing.room (alive search.built.now)

-- a search at work: an island is left, of which the shape and the corner are known, and the ways are those of the hand among what is built
pub record IsSearch (search : Search) : Type 0 where
  pub planner : IsPlanner search.planner.now
  pub ways : AreWays (search_site search) search.place search.ways
  pub hand : IsHandIn search.planner.now.placing.room search.place
  pub wanted : Island
  pub others : List Island
  pub left_is : search.left.now ≡ wanted ∷ others
  pub target : Plane
  pub islands : AreIslandsOf target search.left.now
  pub near : IsInRange (2 ^ 40) target
  pub shape_is : IsShapeOf (alive wanted.cells) (alive search.shape) search.corner
  pub range : IsCellInRange (2 ^ 40) search.corner

-- where it stands, with the elbow there
abbrev pub stand_of : Search → Elbow → Stand
stand_of search elbow = record { elbow = elbow; place = search.place; built = alive search.built.now; left = search.left.now }

-- the way of the hand to a place, and the events of its salvos and of the one at the end
pub record IsThrown (book : CheckedEntries) (room : Bounds) (stand : Stand) (number : ℕ) (place : Cell) (way : List ℕ) (events : List Event) (to : Elbow) : Type 0 where
  pub way_is : IsWayIn (site_of book room stand.built) stand.place way place
  pub served : ServedBy book stand.elbow (way_throws book.salvos stand.place way number place) events to

-- what the search looks for and where it stands stay
abbrev pub with_ways : Search → Option HandLabels → Search
with_ways search ways = record { planner = search.planner; built = search.built; place = search.place; ways = ways; left = search.left; shape = search.shape; corner = search.corner }

abbrev pub SameSearch : Search → Search → Type 0
SameSearch old new = new ≡ with_ways old new.ways

-- a salvo may begin with the hand there: it has room, also where it is left, and each hit is clear of what is built
pub record MayBegin (search : Search) (salvo : Struck) (at : Cell) : Type 0 where
  pub in_room : InBox search.planner.now.placing.room at.x at.y
  pub left : MayBeLeft search.planner.now.placing.room (leaves_hand salvo at) (length search.left.now ≡ 1)
  pub clear : IsSalvoClear search.planner.now.book.now.settings (alive search.built.now) salvo at

-- the cells of the first island left, and what is built with it
abbrev pub first_of : List Island → Plane
first_of [] = nothing
first_of (wanted ∷ others) = alive wanted.cells

abbrev pub built_with : Search → Plane
built_with search = union (alive search.built.now) (first_of search.left.now)

-- the hand that needs a farewell: one that is left where no island is left after the first
abbrev pub IsLastHand : List Island → Option Cell → Option Cell → Type 0
IsLastHand left hand None = length left ≡ 1 → hand ≡ None
IsLastHand left hand (Some place) = (length left ≡ 1) × (hand ≡ Some place)

-- the events of a way and of the salvo at its end were added, or there are none
abbrev pub IsWalkedTo : Search → Walk → Walk → ℕ → Cell → Bool → Type 0
IsWalkedTo search old new number at true =
    (way : List ℕ) × ((more : List Event) × (AddsEvents old new more
    × IsThrown search.planner.now.book.now search.planner.now.placing.room (stand_of search old.elbow) number at way more new.elbow))
IsWalkedTo search old new number at false =
    AddsSome old new
    × ((way : List ℕ) (events : List Event) (to : Elbow) → IsThrown search.planner.now.book.now search.planner.now.placing.room (stand_of search old.elbow) number at way events to → ⊥)

-- the events of a farewell, and the elbow after it; none where none was walked
abbrev pub farewell_events : Option Walk → List Event
farewell_events None = []
farewell_events (Some walk) = walk.events.items

abbrev pub farewell_elbow : Elbow → Option Walk → Elbow
farewell_elbow elbow None = elbow
farewell_elbow elbow (Some walk) = walk.elbow

-- the farewell was walked where the salvo is the last one
abbrev pub IsLastWord : CheckedEntries → Bounds → Plane → Elbow → Type 0 → Trial → Type 0
IsLastWord book room built elbow IsLast trial = IsLast → SaysFarewell book room built trial.hand elbow (farewell_events trial.farewell) (farewell_elbow elbow trial.farewell)

-- how a salvo is left whose events lead to this elbow
pub record IsLeft (search : Search) (salvo : Struck) (at : Cell) (elbow : Elbow) (trial : Trial) : Type 0 where
  pub at_is : trial.at ≡ at
  pub hand_is : trial.hand ≡ leaves_hand salvo at
  pub last_word : IsLastWord search.planner.now.book.now search.planner.now.placing.room (built_with search) elbow (length search.left.now ≡ 1) trial

-- it is the last one, and the hand that it leaves has no farewell
pub record HasNoFarewell (search : Search) (salvo : Struck) (at : Cell) (elbow : Elbow) : Type 0 where
  pub is_last : length search.left.now ≡ 1
  pub none : CanSayFarewell search.planner.now.book.now search.planner.now.placing.room (built_with search) (leaves_hand salvo at) elbow → ⊥

-- what the search has found: a usable salvo with this number, with the events that were added
pub record IsTrial (book : CheckedEntries) (room : Bounds) (stand : Stand) (number : ℕ) (old new : Walk) (trial : Trial) : Type 0 where
  pub taken : Taken
  pub usable : IsUsable book room stand taken
  pub number_is : taken.number ≡ number
  pub events : AddsEvents old new taken.events
  pub elbow : new.elbow ≡ taken.elbow
  pub at : trial.at ≡ taken.place
  pub hand : trial.hand ≡ hand_after taken
  pub farewell : IsLastWord book room (union stand.built (product_of taken)) taken.elbow (taken.left ≡ []) trial

-- no salvo with this number is usable
abbrev pub NoneUsable : CheckedEntries → Bounds → Stand → ℕ → Type 0
NoneUsable book room stand number = (taken : Taken) → IsUsable book room stand taken → taken.number ≡ number → ⊥

-- what the search has found: a usable salvo, and none with a lesser number is usable
pub record IsFirstUsable (book : CheckedEntries) (room : Bounds) (stand : Stand) (old new : Walk) (trial : Trial) : Type 0 where
  pub number : ℕ
  pub is_trial : IsTrial book room stand number old new trial
  pub least : (taken : Taken) → IsUsable book room stand taken → number ≤ taken.number
