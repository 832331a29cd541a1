-- Which salvo is usable where a planner stands, and which is taken.
use Rattle.std.specs.Prelude.{◌≡◌, ℕ, ◌≤◌, List, [], ◌++◌, Option}
use Rattle.std.specs.declared.option.Option.TheVariants.{Some, None}
use Rattle.life_plane.specs.Plane.{Plane, union, shift}
use Rattle.life_cells.specs.declared.cell.Cell.{Cell}
use Rattle.life_cells.specs.declared.bounds.Bounds.{Bounds}
use Rattle.life_cells.specs.Cells.{alive}
use Rattle.life_cells.specs.Boxes.{InBox}
use Rattle.life_islands.specs.declared.island.Island.{Island}
use Rattle.elbow_graph.specs.declared.elbow.Elbow.{Elbow}
use Rattle.elbow_graph.specs.Numbered.{IsNumbered}
use Rattle.recipe_turn.specs.Checked.{raws}
use Rattle.recipe_hit.specs.Checked.{Struck}
use Rattle.recipe_book.specs.Checked.{CheckedEntries}
use Rattle.hand_route.specs.Clearings.{IsSalvoClear}
use Rattle.hand_route.specs.Moves.{Site, leaves_hand}
use Rattle.hand_route.specs.Lists.{IsLeastHandList, IsLeastFarewell}
use Rattle.build_plan.specs.declared.event.Event.{Event}
use Rattle.build_plan.specs.Throws.{salvo_throws, list_throws}
use Rattle.build_plan.specs.declared.throw.Throw.{Throw}
use Rattle.build_plan.specs.Served.{AreServed}
use Rattle.build_plan.specs.Fits.{Fits, AreLeftAfter}
use Rattle.build_plan.specs.Stand.{Stand}

-- what is taken for an island: the salvo by its number, the place of the hand as it begins, the salvos that carry the hand there, the events of
-- them all, the elbow after them, and the islands left
pub record Taken : Type 0 where
  pub number : ℕ
  pub salvo : Struck
  pub place : Cell
  pub way : List ℕ
  pub events : List Event
  pub elbow : Elbow
  pub left : List Island

-- what it builds
abbrev pub product_of : Taken → Plane
product_of taken = shift taken.place.x taken.place.y (alive taken.salvo.raw.product)

-- where it leaves the hand, if it leaves one
abbrev pub hand_after : Taken → Option Cell
hand_after taken = leaves_hand taken.salvo taken.place

-- where a hand moves in this room, among what is built
abbrev pub site_of : CheckedEntries → Bounds → Plane → Site
site_of book room built = record { settings = book.settings; salvos = book.salvos; room = room; built = built }

-- the way of the hand to a place: none for the first hand, which stands there; otherwise the least hand list
abbrev pub IsWayIn : Site → Option Cell → List ℕ → Cell → Type 0
IsWayIn site None way to = way ≡ []
IsWayIn site (Some from) way to = IsLeastHandList site from way to

abbrev pub IsWay : CheckedEntries → Bounds → Plane → Option Cell → List ℕ → Cell → Type 0
IsWay book room built from way to = IsWayIn (site_of book room built) from way to

-- the gliders of the salvos that carry a hand on its way; the first hand stands where its salvo begins
abbrev pub carrying_throws : List Struck → Option Cell → List ℕ → List Throw
carrying_throws salvos None way = []
carrying_throws salvos (Some from) way = list_throws salvos from way

-- the gliders of the way and then of the salvo
abbrev pub way_throws : List Struck → Option Cell → List ℕ → ℕ → Cell → List Throw
way_throws salvos from way number place = carrying_throws salvos from way ++ salvo_throws salvos number place

-- the farewell of a hand: the least farewell list, and the events for each of its lanes; nothing where no hand is left
abbrev pub SaysFarewell : CheckedEntries → Bounds → Plane → Option Cell → Elbow → List Event → Elbow → Type 0
SaysFarewell book room built None from events to = (events ≡ []) × (to ≡ from)
SaysFarewell book room built (Some place) from events to =
    (list : List ℕ) × (IsLeastFarewell (site_of book room built) place list
    × AreServed (raws book.turns) book.settings.span from (list_throws book.salvos place list) events to)

-- there is a farewell
abbrev pub CanSayFarewell : CheckedEntries → Bounds → Plane → Option Cell → Elbow → Type 0
CanSayFarewell book room built place from = (events : List Event) × ((to : Elbow) × SaysFarewell book room built place from events to)

-- a hand may be left at the end of a salvo: none only where no island is left; one in the room, and with a farewell where no island is left
abbrev pub MayLeave : CheckedEntries → Bounds → Plane → Option Cell → Elbow → List Island → Type 0
MayLeave book room built None elbow left = left ≡ []
MayLeave book room built (Some place) elbow left = InBox room place.x place.y × (left ≡ [] → CanSayFarewell book room built (Some place) elbow)

-- A salvo is usable where a planner stands, in this way.
pub record IsUsable (book : CheckedEntries) (room : Bounds) (stand : Stand) (taken : Taken) : Type 0 where
  pub numbered : IsNumbered book.salvos taken.number taken.salvo
  -- its product fits the islands that are left, and its place is in the room
  pub fits : Fits stand.left (alive taken.salvo.raw.product) taken.place
  pub left_after : AreLeftAfter stand.left (product_of taken) taken.left
  pub in_room : InBox room taken.place.x taken.place.y
  -- the hand comes to its place
  pub way : IsWay book room stand.built stand.place taken.way taken.place
  -- its hits are clear of what is built
  pub clear : IsSalvoClear book.settings stand.built taken.salvo taken.place
  -- each lane of the way and then of the salvo has a least list of turns, from the elbow that the lane before left
  pub served : AreServed (raws book.turns) book.settings.span stand.elbow (way_throws book.salvos stand.place taken.way taken.number taken.place) taken.events taken.elbow
  -- it leaves a hand where it may
  pub leaves : MayLeave book room (union stand.built (product_of taken)) (hand_after taken) taken.elbow taken.left

-- it is usable, and no usable salvo has a lesser number
pub record IsTaken (book : CheckedEntries) (room : Bounds) (stand : Stand) (taken : Taken) : Type 0 where
  pub usable : IsUsable book room stand taken
  pub least : (other : Taken) → IsUsable book room stand other → taken.number ≤ other.number

-- where the planner stands after it
abbrev pub stand_after : Stand → Taken → Stand
stand_after stand taken = record { elbow = taken.elbow; place = hand_after taken; built = union stand.built (product_of taken); left = taken.left }
