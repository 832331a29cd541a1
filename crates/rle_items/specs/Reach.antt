-- How far from (0,0) a text may go, and how many live cells it may have.
use Rattle.std.specs.Prelude.{◌≡◌, ◌≤◌, ◌^◌, ℤ, pos, neg_ℤ, ◌+ℤ◌, ◌≤ℤ◌, List, ◌++◌}
use Rattle.life_cells.specs.Cells.{cell}
use Rattle.life_cells.specs.declared.cell.Cell.{Cell}
use Rattle.rle_items.specs.declared.item.Item.{Item}
use Rattle.rle_items.specs.Items.{rows, columns, live}

-- from -2^40 to 2^40
pub record IsNearZero (z : ℤ) : Type 0 where
  pub low : neg_ℤ (pos (2 ^ 40)) ≤ℤ z
  pub high : z ≤ℤ pos (2 ^ 40)

-- both coordinates are
pub record IsInReach (c : Cell) : Type 0 where
  pub x : IsNearZero c.x
  pub y : IsNearZero c.y

-- where the cursor stands behind these items, the first of them at the place
abbrev pub cursor_behind : Cell → List Item → Cell
cursor_behind place items = cell (place.x +ℤ pos (columns items)) (place.y +ℤ pos (rows items))

-- the cursor is in reach behind each item, and at the place; and there are few live cells up to and with each item
pub record AreFineFrom (place : Cell) (items : List Item) : Type 0 where
  pub near : (front back : List Item) → items ≡ front ++ back → IsInReach (cursor_behind place front)
  pub few : (front back : List Item) → items ≡ front ++ back → live front ≤ 2 ^ 18
