-- What a body word means, and how an item is written.
use Rattle.std.specs.Prelude.{◌≡◌, ℕ, true, ℤ, pos, ◌≤ℤ◌, List, [], ◌∷◌, ◌++◌, ◌==◌, if◌then◌else◌}
use Rattle.std.specs.Fmt.{decimal}
use Rattle.life_plane.specs.Plane.{Plane}
use Rattle.life_cells.specs.Cells.{cell}
use Rattle.rle_items.specs.declared.item.Item.{Item}
use Rattle.rle_items.specs.declared.item.Tag.{Tag}
use Rattle.rle_items.specs.declared.item.Tag.TheVariants.{Dead, Alive, RowEnd}
use Rattle.rle_items.specs.Items.{AreCells}
use Rattle.rle_items.specs.Spelling.{Spells}

-- the live cells that a body word means: items without gaps from (0,0), and `!` as its last byte
pub record WordMeans (word : List ℕ) (s : Plane) : Type 0 where
  pub items : List Item
  pub written : List ℕ
  pub whole : word ≡ written ++ (33 ∷ [])
  pub items_are : Spells (λ gap. gap ≡ []) written items
  pub cells : AreCells (cell (pos 0) (pos 0)) items s

-- no live cell has a negative coordinate
pub record IsNotNegative (s : Plane) : Type 0 where
  pub x : (x y : ℤ) → s x y ≡ true → pos 0 ≤ℤ x
  pub y : (x y : ℤ) → s x y ≡ true → pos 0 ≤ℤ y

abbrev pub tag_byte : Tag → ℕ
tag_byte Dead = 98
tag_byte Alive = 111
tag_byte RowEnd = 36

-- the count, unless it is 1, and the tag
abbrev pub item_text : Item → List ℕ
item_text i = (if i.count == 1 then [] else decimal i.count) ++ (tag_byte i.tag ∷ [])
