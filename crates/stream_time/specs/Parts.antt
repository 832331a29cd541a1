-- The parts of a pattern that a book builds: its start elbow, at most one hand, and gliders on one lane.
use Rattle.std.specs.Prelude.{◌≡◌, ℤ, List, [], ◌∷◌, Option}
use Rattle.std.specs.declared.option.Option.TheVariants.{Some, None}
use Rattle.life_plane.specs.Plane.{Plane, union, shift}
use Rattle.life_cells.specs.Cells.{alive}
use Rattle.life_cells.specs.declared.cell.Cell.{Cell}
use Rattle.life_islands.specs.declared.island.Island.{Island}
use Rattle.book_parts.specs.Kinds.{kind_plane}
use Rattle.recipe_book.specs.Checked.{CheckedEntries}
use Rattle.event_times.specs.Lane.{gliders_at, AreInLine}
use Rattle.plan_facts.specs.State.{hand_plane, first_hand}

-- there is a hand where there is an island, and none where there is none
abbrev pub IsHandFor : List Island → Option Cell → Type 0
IsHandFor [] first = first ≡ None
IsHandFor (island ∷ islands) first = (place : Cell) × (first ≡ Some place)

-- The pattern is the book's start elbow, its hand at one place where the target has an island, and gliders on one lane, each at least a gap
-- behind the one before it; all shifted back.
pub record HasParts (book : CheckedEntries) (islands : List Island) (pattern : Plane) : Type 0 where
  pub first : Option Cell
  pub one_hand : IsHandFor islands first
  pub gliders : List ℤ
  pub in_line : AreInLine gliders
  pub back : Cell
  pub is : pattern ≡ shift back.x back.y (union (kind_plane book.kinds book.start) (union (hand_plane (alive book.hand) (first_hand first)) (gliders_at gliders)))
