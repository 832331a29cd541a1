-- Where the reading of a body word stops.
use Rattle.std.specs.Prelude.{ℕ, ◌⊎◌, pos, List, [], ◌∷◌}
use Rattle.life_cells.specs.Cells.{cell}
use Rattle.life_cells.specs.declared.cell.Cell.{Cell}
use Rattle.rle_items.specs.declared.item.Item.{Item}
use Rattle.rle_items.specs.declared.error.BodyError.{BodyError}
use Rattle.rle_items.specs.declared.error.BodyError.TheVariants.{BadItem, BadCount, NoEnd, TooFar, TooMany, Memory}
use Rattle.rle_items.specs.Spelling.{IsNone}
use Rattle.rle_items.specs.ItemFaults.{BeginsAt, IsReadTo, ItemsStopWith}

-- where the first item of a body word stands
abbrev pub origin : Cell
origin = cell (pos 0) (pos 0)

-- a body word is fine items, and `!` as its last byte
abbrev pub IsFineWord : List ℕ → Type 0
IsFineWord word = (items : List Item) × IsReadTo IsNone origin word (33 ∷ []) items

-- a byte follows the `!` behind fine items
pub record GoesOn (word : List ℕ) (at : ℕ) : Type 0 where
  pub items : List Item
  pub byte : ℕ
  pub more : List ℕ
  pub read : IsReadTo IsNone origin word (33 ∷ (byte ∷ more)) items
  pub place : BeginsAt word (byte ∷ more) at

-- the reading of a body word stops with this refusal: among its items, which have no gaps, or behind its `!`
abbrev pub StopsWith : List ℕ → BodyError → Type 0
StopsWith word (BadItem at) = ItemsStopWith IsNone word origin word (BadItem at) ⊎ GoesOn word at
StopsWith word (BadCount at) = ItemsStopWith IsNone word origin word (BadCount at)
StopsWith word NoEnd = ItemsStopWith IsNone word origin word NoEnd
StopsWith word (TooFar at) = ItemsStopWith IsNone word origin word (TooFar at)
StopsWith word (TooMany count) = ItemsStopWith IsNone word origin word (TooMany count)
StopsWith word Memory = Unit {0}
