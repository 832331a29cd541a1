-- Items that are read.
use Rattle.std.specs.Prelude.{ℕ, ◌≤◌, ◌^◌, List, ◌∷◌, length}
use Rattle.life_cells.specs.Cells.{Cells, alive, in_order}
use Rattle.life_cells.specs.declared.cell.Cell.{Cell}
use Rattle.rle_items.specs.declared.item.Item.{Item}
use Rattle.rle_items.specs.Items.{AreCells}
use Rattle.rle_items.specs.Gaps.{IsNextItem, IsAtEnd}
use Rattle.rle_items.specs.ItemFaults.{BeginsAt, IsReadTo}

module _ (Gap : List ℕ → Type 0) where
  -- the next item, its tag at this place of the text, and what follows
  pub record IsItemAt (text rest : List ℕ) (item : Item) (at : ℕ) (more : List ℕ) : Type 0 where
    pub tag : ℕ
    pub next : IsNextItem Gap rest item tag more
    pub tag_at : BeginsAt text (tag ∷ more) at

  -- the body is fine items from the place on, up to a `!` at the front of this rest, and these are their cells
  pub record IsRead (place : Cell) (body : List ℕ) (cells : Cells) (rest : List ℕ) : Type 0 where
    pub items : List Item
    pub read : IsReadTo Gap place body rest items
    pub end : IsAtEnd Gap rest
    pub are_cells : AreCells place items (alive cells)
    pub few : length (in_order cells) ≤ 2 ^ 18
