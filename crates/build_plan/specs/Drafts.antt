-- Plans in the making.
use Rattle.std.specs.Prelude.{◌≡◌, ℕ, ◌+◌, ◌≤◌, ◌^◌, pos, List, [], ◌∷◌, length, drop, Option}
use Rattle.std.specs.declared.option.Option.TheVariants.{Some, None}
use Rattle.life_plane.specs.Plane.{Plane}
use Rattle.life_cells.specs.declared.cell.Cell.{Cell}
use Rattle.life_cells.specs.declared.bounds.Bounds.{Bounds}
use Rattle.life_cells.specs.Boxes.{IsInRange}
use Rattle.life_cells.specs.Cells.{Cells, alive, empty}
use Rattle.life_islands.specs.declared.island.Island.{Island}
use Rattle.elbow_graph.specs.declared.elbow.Elbow.{Elbow}
use Rattle.elbow_graph.specs.Elbows.{elbow}
use Rattle.recipe_book.specs.Checked.{CheckedEntries}
use Rattle.build_plan.specs.declared.draft.Draft.{Draft}
use Rattle.build_plan.specs.Plan.{most_gliders, first_stand, TakeOn, taken_events, first_place, gliders_in}
use Rattle.build_plan.specs.ServedWalk.{AddsEvents}
use Rattle.build_plan.specs.Stand.{Stand}
use Rattle.build_plan.specs.Trials.{IsHandIn, AreIslandsOf, farewell_events, farewell_elbow}
use Rattle.build_plan.specs.Usable.{Taken, IsTaken, SaysFarewell, stand_after}

-- islands of some plane, in order, not too far from (0,0)
pub record AreNear (all : List Island) : Type 0 where
  pub target : Plane
  pub islands : AreIslandsOf target all
  pub near : IsInRange (2 ^ 40) target

-- islands of some plane that are left, in order: there is one at least
pub record AreLeft (left : List Island) : Type 0 where
  pub wanted : Island
  pub others : List Island
  pub left_is : left ≡ wanted ∷ others
  pub target : Plane
  pub islands : AreIslandsOf target left
  pub near : IsInRange (2 ^ 40) target

-- where a planner stands
abbrev pub stand_of : Elbow → Option Cell → Cells → List Island → Stand
stand_of at hand built left = record { elbow = at; place = hand; built = alive built; left = left }

abbrev pub stand_at : Draft → List Island → Stand
stand_at draft left = stand_of draft.walk.elbow draft.hand draft.built left

-- nothing is taken yet
pub record IsFirstDraft (book : CheckedEntries) (draft : Draft) : Type 0 where
  pub elbow_is : draft.walk.elbow ≡ elbow book.start (pos 0)
  pub no_events : draft.walk.events.items ≡ []
  pub no_gliders : draft.gliders ≡ 0
  pub no_first : draft.first_hand ≡ None
  pub no_hand : draft.hand ≡ None
  pub none_built : draft.built ≡ empty
  pub no_farewell : draft.farewell ≡ None

-- where no island is left, the farewell of the hand is known
abbrev pub HasFarewell : CheckedEntries → Bounds → Draft → List Island → Type 0
HasFarewell book room draft left =
    left ≡ [] → SaysFarewell book room (alive draft.built) draft.hand draft.walk.elbow (farewell_events draft.farewell) (farewell_elbow draft.walk.elbow draft.farewell)

-- the place of the first hand stays that of the first one
abbrev pub first_or : Option Cell → Cell → Option Cell
first_or None at = Some at
first_or (Some first) at = Some first

-- a salvo is taken for the first of the islands left, and the draft has its events; the others are left
pub record TakesOne (book : CheckedEntries) (room : Bounds) (old : Draft) (left : List Island) (new : Draft) : Type 0 where
  pub taken : Taken
  pub is_taken : IsTaken book room (stand_at old left) taken
  pub left_is : taken.left ≡ drop 1 left
  pub stand_is : stand_at new taken.left ≡ stand_after (stand_at old left) taken
  pub events : AddsEvents old.walk new.walk taken.events
  pub gliders : new.gliders ≡ old.gliders + gliders_in book taken.events
  pub first_is : new.first_hand ≡ first_or old.first_hand taken.place
  pub hand : IsHandIn room new.hand
  pub farewell : HasFarewell book room new taken.left

-- salvos are taken for the islands before a place, and the draft has their events, of few enough stream gliders
pub record IsDraftTo (book : CheckedEntries) (room : Bounds) (islands : List Island) (place : ℕ) (draft : Draft) : Type 0 where
  pub taken : List Taken
  pub takes : TakeOn book room (first_stand book islands) taken (stand_at draft (drop place islands))
  pub events_are : draft.walk.events.items ≡ taken_events taken
  pub gliders_are : draft.gliders ≡ gliders_in book (taken_events taken)
  pub few : draft.gliders ≤ most_gliders
  pub first_is : draft.first_hand ≡ first_place taken
  pub hand : IsHandIn room draft.hand
  pub farewell : HasFarewell book room draft (drop place islands)

-- salvos are taken for all islands
abbrev pub IsWholeDraft : CheckedEntries → Bounds → List Island → Draft → Type 0
IsWholeDraft book room islands draft = IsDraftTo book room islands (length islands) draft
