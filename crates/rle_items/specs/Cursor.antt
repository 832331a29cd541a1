-- Where items leave the cursor, and the cells of a row.
use Rattle.std.specs.Prelude.{◌≡◌, ℕ, zero, suc, ◌<◌, ◌≤◌, ◌^◌, pos, ◌+ℤ◌, List, [], ◌∷◌, ◌++◌, if◌then◌else◌}
use Rattle.life_cells.specs.Cells.{cell}
use Rattle.life_cells.specs.declared.cell.Cell.{Cell}
use Rattle.rle_items.specs.declared.cursor.Cursor.{Cursor}
use Rattle.rle_items.specs.declared.item.Item.{Item}
use Rattle.rle_items.specs.declared.error.BodyError.{BodyError}
use Rattle.rle_items.specs.declared.error.BodyError.TheVariants.{BadItem, BadCount, NoEnd, TooFar, TooMany, Memory}
use Rattle.rle_items.specs.Items.{rows, columns, live, is_alive}
use Rattle.rle_items.specs.Reach.{IsInReach}

-- the cursor is where these items leave it
pub record IsBehind (items : List Item) (cursor : Cursor) : Type 0 where
  pub row : cursor.row ≡ rows items
  pub column : cursor.column ≡ columns items
  pub live : cursor.live ≡ live items

-- where the cursor stands, the first item being at the place
abbrev pub stands_at : Cell → Cursor → Cell
stands_at place cursor = cell (place.x +ℤ pos cursor.column) (place.y +ℤ pos cursor.row)

-- the cursor is in reach, and there are few live cells behind it
pub record IsWithin (place : Cell) (cursor : Cursor) : Type 0 where
  pub near : IsInReach (stands_at place cursor)
  pub live : cursor.live ≤ 2 ^ 18

-- the limit that the cursor behind the item with its tag at this place of the text passes
abbrev pub Passes : Cell → Cursor → ℕ → BodyError → Type 0
Passes place cursor at (TooFar there) = (¬ IsInReach (stands_at place cursor)) × (there ≡ at)
Passes place cursor at (TooMany count) = IsInReach (stands_at place cursor) × ((2 ^ 18 < cursor.live) × (count ≡ cursor.live))
Passes place cursor at (BadItem there) = ⊥
Passes place cursor at (BadCount there) = ⊥
Passes place cursor at NoEnd = ⊥
Passes place cursor at Memory = ⊥

-- so far from its limits that one more item fits
pub record HasRoom (cursor : Cursor) : Type 0 where
  pub row : cursor.row ≤ 2 ^ 41
  pub column : cursor.column ≤ 2 ^ 41
  pub live : cursor.live ≤ 2 ^ 18

-- one more item was put behind such a cursor
pub record HasMoved (cursor : Cursor) : Type 0 where
  pub row : cursor.row < 2 ^ 62
  pub column : cursor.column < 2 ^ 62

-- cells of a row from a first one on, so many
abbrev pub row_cells : Cell → ℕ → List Cell
row_cells first zero = []
row_cells first (suc n) = row_cells first n ++ (cell (first.x +ℤ pos n) first.y ∷ [])

-- the cells of an item, the first of them being this
abbrev pub item_cells : Cell → Item → List Cell
item_cells first item = if is_alive item.tag then row_cells first item.count else []
