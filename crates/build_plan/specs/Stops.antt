-- Where a book has no plan for a target, and why.
use Rattle.std.specs.Prelude.{◌≡◌, ◌⊎◌, ℕ, ◌<◌, ◌≤◌, ℤ, ◌-ℤ◌, List, [], ◌∷◌, ◌++◌}
use Rattle.life_plane.specs.Plane.{Plane}
use Rattle.life_cells.specs.declared.cell.Cell.{Cell}
use Rattle.life_cells.specs.Cells.{cell}
use Rattle.life_islands.specs.Islands.{AreIslands}
use Rattle.life_islands.specs.declared.island.Island.{Island}
use Rattle.elbow_graph.specs.Elbows.{elbow}
use Rattle.elbow_graph.specs.Numbered.{IsNumbered}
use Rattle.recipe_turn.specs.Checked.{raws}
use Rattle.recipe_book.specs.Checked.{CheckedEntries}
use Rattle.elbow_route.specs.Lists.{ClosesBy, IsLeastClosing}
use Rattle.build_plan.specs.declared.error.PlanError.{PlanError}
use Rattle.build_plan.specs.declared.error.PlanError.TheVariants.{NoRecipe, NoClosing, StreamLong, Memory}
use Rattle.build_plan.specs.declared.placing.Placing.{Placing}
use Rattle.build_plan.specs.Stand.{Stand}
use Rattle.build_plan.specs.Usable.{Taken, IsTaken, IsUsable}
use Rattle.build_plan.specs.Placing.{IsPlacing, moved_target}
use Rattle.build_plan.specs.Plan.{most_gliders, first_stand, TakeOn, taken_events, Course, IsCourse, all_events, gliders_in}

-- salvos were taken one after the other until the planner stood here, and the stream isn't too long yet
pub record Reaches (book : CheckedEntries) (placing : Placing) (islands : List Island) (taken : List Taken) (stand : Stand) : Type 0 where
  pub takes : TakeOn book placing.room (first_stand book islands) taken stand
  pub few : gliders_in book (taken_events taken) ≤ most_gliders

-- an island is left, this one the first, with this number among all islands, and no salvo is usable; its first cell is this in the target's
-- own coordinates
pub record HasNoRecipe (book : CheckedEntries) (placing : Placing) (islands : List Island) (number : ℕ) (at : Cell) : Type 0 where
  pub taken : List Taken
  pub stand : Stand
  pub reaches : Reaches book placing islands taken stand
  pub island : Island
  pub others : List Island
  pub left_is : stand.left ≡ island ∷ others
  pub none : (other : Taken) → IsUsable book placing.room stand other → ⊥
  pub number_is : IsNumbered islands number island
  pub at_is : at ≡ cell (island.first.x -ℤ placing.by.x) (island.first.y -ℤ placing.by.y)

-- all islands are built, and no list closes the elbow then reached
pub record HasNoClosing (book : CheckedEntries) (placing : Placing) (islands : List Island) (kind : ℕ) (shift : ℤ) : Type 0 where
  pub course : Course
  pub is_course : IsCourse book placing.room islands course
  pub few : gliders_in book (taken_events course.taken) ≤ most_gliders
  pub elbow_is : course.elbow ≡ elbow kind shift
  pub none : (list : List ℕ) → ClosesBy (raws book.turns) book.settings.span course.elbow list → ⊥

-- the next salvo taken makes the stream too long
pub record IsLongAtSalvo (book : CheckedEntries) (placing : Placing) (islands : List Island) (count : ℕ) : Type 0 where
  pub taken : List Taken
  pub stand : Stand
  pub reaches : Reaches book placing islands taken stand
  pub next : Taken
  pub is_next : IsTaken book placing.room stand next
  pub count_is : count ≡ gliders_in book (taken_events (taken ++ next ∷ []))
  pub more : most_gliders < count

-- the farewell and the closing list make the stream too long
pub record IsLongAtClosing (book : CheckedEntries) (placing : Placing) (islands : List Island) (count : ℕ) : Type 0 where
  pub course : Course
  pub is_course : IsCourse book placing.room islands course
  pub few : gliders_in book (taken_events course.taken) ≤ most_gliders
  pub closing : List ℕ
  pub least : IsLeastClosing (raws book.turns) book.settings.span course.elbow closing
  pub count_is : count ≡ gliders_in book (all_events book course closing)
  pub more : most_gliders < count

-- planning stops so for the islands of a target at its place; want of memory may come at any time
abbrev pub StopsFor : CheckedEntries → Placing → List Island → PlanError → Type 0
StopsFor book placing islands (NoRecipe island at) = HasNoRecipe book placing islands island at
StopsFor book placing islands (NoClosing kind shift) = HasNoClosing book placing islands kind shift
StopsFor book placing islands (StreamLong count) = IsLongAtSalvo book placing islands count ⊎ IsLongAtClosing book placing islands count
StopsFor book placing islands Memory = Unit {0}

-- planning stops so for a target, at the place where it is built
pub record StopsThere (book : CheckedEntries) (target : Plane) (stop : PlanError) : Type 0 where
  pub placing : Placing
  pub is_placing : IsPlacing book.settings target placing
  pub islands : List Island
  pub islands_are : AreIslands (moved_target target placing.by) islands
  pub stops : StopsFor book placing islands stop

-- planning stops so for a target; want of memory may come before its islands are known
abbrev pub PlanStops : CheckedEntries → Plane → PlanError → Type 0
PlanStops book target (NoRecipe island at) = StopsThere book target (NoRecipe island at)
PlanStops book target (NoClosing kind shift) = StopsThere book target (NoClosing kind shift)
PlanStops book target (StreamLong count) = StopsThere book target (StreamLong count)
PlanStops book target Memory = Unit {0}
