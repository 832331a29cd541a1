-- The room for the places of the hand, and a table of its places row by row.
use Rattle.std.specs.Prelude.{◌≡◌, ℕ, zero, suc, ◌+◌, ◌*◌, ℤ, neg_ℤ, ◌-ℤ◌, ◌≤ℤ◌, ◌<ℤ◌, unsigned_abs, List, length, get_or, refl}
use Rattle.std.specs.List.{slice_get, Contains}
use Rattle.std.specs.declared.option.Option.TheVariants.{Some}
use Rattle.std.specs.Coded.{Coded, code_by, coded×, coded_list}
use Rattle.life_cells.specs.declared.cell.Cell.{Cell}
use Rattle.life_cells.specs.declared.bounds.Bounds.{Bounds}
use Rattle.life_cells.specs.contracts.bounds.Bounds as bounds_row
use Rattle.life_cells.specs.Boxes.{InBox}
use Rattle.life_cells.specs.Cells.{coded_cell}
use Rattle.breadth_search.specs.declared.found.Label.{Label}
use Rattle.breadth_search.specs.contracts.found.Label as label_row
use Rattle.hand_route.specs.declared.room.TheConstants.{MOST_PLACES, FARTHEST}

-- the ends of a side of a room: there are some numbers from one to the other, and not too many of them, and the ends lie from -2^50 to 2^50
pub record IsSide (low high : ℤ) : Type 0 where
  pub from : neg_ℤ FARTHEST ≤ℤ low
  pub order : low ≤ℤ high
  pub to : high ≤ℤ FARTHEST
  pub few : (high -ℤ low) <ℤ MOST_PLACES

-- a room for the places of a hand
pub record IsRoom (room : Bounds) : Type 0 where
  pub columns : IsSide room.left room.right
  pub rows : IsSide room.top room.bottom

-- how many places it has from left to right, and how many in all
abbrev pub width_of : Bounds → ℕ
width_of room = unsigned_abs (room.right -ℤ room.left) + 1

abbrev pub size_of : Bounds → ℕ
size_of room = (unsigned_abs (room.bottom -ℤ room.top) + 1) * width_of room

-- where a place stands among them, row by row
abbrev pub index_in : Bounds → Cell → ℕ
index_in room at = unsigned_abs (at.y -ℤ room.top) * width_of room + unsigned_abs (at.x -ℤ room.left)

-- the places that were found in a room, in order, with their labels
pub record Places : Type 0 where
  pub room : Bounds
  pub cells : List Cell
  pub labels : List Label

abbrev pub coded_places : Coded Places
coded_places = code_by (Bounds × (List Cell × List Label)) (coded× bounds_row.the_row.coded (coded× (coded_list coded_cell) (coded_list label_row.the_row.coded)))
    (λ p. (p.room, (p.cells, p.labels))) (λ p. record { room = p.0; cells = p.1.0; labels = p.1.1 }) (λ _. refl)

-- 0 stands for a place that was not found, and else so many were found up to it
abbrev pub IsEntry : List Cell → Cell → ℕ → Type 0
IsEntry cells at zero = Contains cells at → ⊥
IsEntry cells at (suc k) = slice_get cells k ≡ Some at

-- the table has each place of the room
pub record IsTable (room : Bounds) (cells : List Cell) (table : List ℕ) : Type 0 where
  pub long : length table ≡ size_of room
  pub inside : (at : Cell) → Contains cells at → InBox room at.x at.y
  pub entries : (at : Cell) → InBox room at.x at.y → IsEntry cells at (get_or table (index_in room at) 0)
