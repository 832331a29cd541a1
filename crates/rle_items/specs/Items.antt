-- Items: a count and a tag each. What they say is found by adding up counts.
use Rattle.std.specs.Prelude.{◌≡◌, ℕ, ◌+◌, Bool, true, false, ◌||◌, ℤ, pos, ◌+ℤ◌, ◌≤ℤ◌, ◌<ℤ◌, List, [], ◌∷◌, ◌++◌, if◌then◌else◌, sum_by}
use Rattle.life_plane.specs.Plane.{Plane}
use Rattle.life_cells.specs.declared.cell.Cell.{Cell}
use Rattle.rle_items.specs.declared.item.Item.{Item}
use Rattle.rle_items.specs.declared.item.Tag.{Tag}
use Rattle.rle_items.specs.declared.item.Tag.TheVariants.{Dead, Alive, RowEnd}

abbrev pub is_row_end : Tag → Bool
is_row_end Dead = false
is_row_end Alive = false
is_row_end RowEnd = true

abbrev pub is_alive : Tag → Bool
is_alive Dead = false
is_alive Alive = true
is_alive RowEnd = false

-- how many rows an item goes down
abbrev pub rows_of : Item → ℕ
rows_of i = if is_row_end i.tag then i.count else 0

-- how many rows these items go down
abbrev pub rows : List Item → ℕ
rows items = sum_by rows_of items

abbrev pub has_row_end : List Item → Bool
has_row_end [] = false
has_row_end (i ∷ items) = is_row_end i.tag || has_row_end items

-- the items since the last end of a row
abbrev pub last_row : List Item → List Item
last_row [] = []
last_row (i ∷ items) = if has_row_end (i ∷ items) then last_row items else i ∷ items

-- how far right these items go in their last row
abbrev pub columns : List Item → ℕ
columns items = sum_by (λ i. i.count) (last_row items)

-- how many live cells these items make
abbrev pub live : List Item → ℕ
live items = sum_by (λ i. if is_alive i.tag then i.count else 0) items

-- the cell at x and y is one of those that a live item makes, the first item being at the place
pub record IsMade (place : Cell) (items : List Item) (x y : ℤ) : Type 0 where
  pub before : List Item
  pub count : ℕ
  pub after : List Item
  pub split : items ≡ before ++ (record { count = count; tag = Alive } ∷ after)
  pub row : y ≡ place.y +ℤ pos (rows before)
  pub from : (place.x +ℤ pos (columns before)) ≤ℤ x
  pub to : x <ℤ (place.x +ℤ pos (columns before + count))

-- the live cells are those that the items make
pub record AreCells (place : Cell) (items : List Item) (s : Plane) : Type 0 where
  pub made : (x y : ℤ) → s x y ≡ true → IsMade place items x y
  pub all : (x y : ℤ) → IsMade place items x y → s x y ≡ true
