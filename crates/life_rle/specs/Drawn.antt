-- What the items of a set are like, for the writer's own parts.
use Rattle.std.specs.Prelude.{◌≡◌, ◌≢◌, ℕ, zero, suc, ◌<◌, ◌^◌, ◌⊎◌, ℤ, pos, neg_ℤ, ◌+ℤ◌, ◌≤ℤ◌, ◌<ℤ◌, true, List, [], ◌∷◌, ◌++◌}
use Rattle.std.specs.List.{AllByRecursion}
use Rattle.life_plane.specs.Plane.{Plane}
use Rattle.life_cells.specs.declared.cell.Cell.{Cell}
use Rattle.rle_items.specs.declared.item.Item.{Item}
use Rattle.rle_items.specs.declared.item.Tag.{Tag}
use Rattle.rle_items.specs.declared.item.Tag.TheVariants.{Dead, Alive, RowEnd}
use Rattle.life_rle.specs.Written.{IsTidyAfter}

-- an item of that many, unless they are none
abbrev pub some_of : ℕ → Tag → List Item
some_of zero tag = []
some_of (suc n) tag = record { count = suc n; tag = tag } ∷ []

-- each live cell is at the column or right of it, and at the row or below it
pub record IsBehind (left top : ℤ) (s : Plane) : Type 0 where
  pub x : (x y : ℤ) → s x y ≡ true → left ≤ℤ x
  pub y : (x y : ℤ) → s x y ≡ true → top ≤ℤ y

-- a cell in a later row, or further right in the row
abbrev pub IsAhead : Cell → Cell → Type 0
IsAhead from to = (from.y <ℤ to.y) ⊎ ((from.y ≡ to.y) × (from.x <ℤ to.x))

-- a cell that may be drawn with the pen at a cell: at it or ahead, not left of the left column, and within the range
pub record IsNext (left : ℤ) (pen c : Cell) : Type 0 where
  pub ahead : (pen.y <ℤ c.y) ⊎ ((pen.y ≡ c.y) × (pen.x ≤ℤ c.x))
  pub right : left ≤ℤ c.x
  pub x_high : c.x ≤ℤ pos (2 ^ 58)
  pub y_high : c.y ≤ℤ pos (2 ^ 58)

-- the way on in the same row
pub record IsGapInRow (from to : Cell) (gap : List Item) : Type 0 where
  pub count : ℕ
  pub some : 0 < count
  pub x : to.x ≡ from.x +ℤ pos count
  pub y : to.y ≡ from.y
  pub items : gap ≡ record { count = count; tag = Dead } ∷ []

-- the way to a later row
pub record IsGapDown (left : ℤ) (from to : Cell) (gap : List Item) : Type 0 where
  pub down : ℕ
  pub right : ℕ
  pub some : 0 < down
  pub x : to.x ≡ left +ℤ pos right
  pub y : to.y ≡ from.y +ℤ pos down
  pub items : gap ≡ record { count = down; tag = RowEnd } ∷ some_of right Dead

-- the items that lead from a cell to a later one
abbrev pub IsGap : ℤ → Cell → Cell → List Item → Type 0
IsGap left from to gap = IsGapInRow from to gap ⊎ IsGapDown left from to gap

-- such items were appended
abbrev pub HasGap : ℤ → Cell → Cell → List Item → List Item → Type 0
HasGap left from to old new = (gap : List Item) × ((new ≡ old ++ gap) × IsGap left from to gap)

-- what the items may follow: the end of a row where the first cell is in the top row, so that they begin with no other; else anything that lives
abbrev pub StartsAfter : ℤ → Cell → Tag → Type 0
StartsAfter top c Dead = ⊥
StartsAfter top c Alive = c.y ≢ top
StartsAfter top c RowEnd = c.y ≡ top

-- no items for no cells; else tidy ones, that begin by going down only where the top row is empty
abbrev pub IsTidyFrom : ℤ → List Cell → List Item → Type 0
IsTidyFrom top [] items = items ≡ []
IsTidyFrom top (c ∷ cs) items = (start : Tag) × (StartsAfter top c start × IsTidyAfter start items)

-- counts of at most 18 digits
abbrev pub AreSmall : List Item → Type 0
AreSmall items = AllByRecursion (λ i. (0 < i.count) × (i.count < 10 ^ 18)) items

-- a place that is near enough to be written, and a size of at most 18 digits
pub record IsSmallFrame (place : Cell) (width height : ℕ) : Type 0 where
  pub left : neg_ℤ (pos (2 ^ 58)) ≤ℤ place.x
  pub top : neg_ℤ (pos (2 ^ 58)) ≤ℤ place.y
  pub x_high : place.x ≤ℤ pos (2 ^ 58)
  pub y_high : place.y ≤ℤ pos (2 ^ 58)
  pub width_small : width < 10 ^ 18
  pub height_small : height < 10 ^ 18
