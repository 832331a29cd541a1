-- The one text that is written for a set of cells.
use Rattle.std.specs.List.{AllByRecursion}
use Rattle.std.specs.Prelude.{◌≡◌, ◌≢◌, ℕ, ◌+◌, ◌<◌, Bool, true, false, ◌⊎◌, pos, ◌+ℤ◌, ◌-ℤ◌, List, [], ◌∷◌, ◌++◌, length, codes, if◌then◌else◌, Option, map, flat_map, nat_le}
use Rattle.std.specs.Fmt.{decimal, signed_decimal}
use Rattle.std.specs.declared.option.Option.TheVariants.{Some, None}
use Rattle.life_plane.specs.Plane.{Plane, nothing}
use Rattle.life_cells.specs.Cells.{cell}
use Rattle.life_cells.specs.Boxes.{IsLeastBox}
use Rattle.life_cells.specs.declared.cell.Cell.{Cell}
use Rattle.life_cells.specs.declared.bounds.Bounds.{Bounds}
use Rattle.rle_items.specs.Items.{AreCells}
use Rattle.rle_items.specs.Words.{item_text}
use Rattle.rle_items.specs.declared.item.Item.{Item}
use Rattle.rle_items.specs.declared.item.Tag.{Tag}
use Rattle.rle_items.specs.declared.item.Tag.TheVariants.{Dead, Alive, RowEnd}

-- dead cells are written only before live ones, and two items in a row never have one tag
abbrev pub may_follow : Tag → Tag → Bool
may_follow Dead Dead = false
may_follow Dead Alive = true
may_follow Dead RowEnd = false
may_follow Alive Dead = true
may_follow Alive Alive = false
may_follow Alive RowEnd = true
may_follow RowEnd Dead = true
may_follow RowEnd Alive = true
may_follow RowEnd RowEnd = false

-- items that may follow a tag, the last of them alive
abbrev pub IsTidyAfter : Tag → List Item → Type 0
IsTidyAfter tag [] = tag ≡ Alive
IsTidyAfter tag (item ∷ items) = (may_follow tag item.tag ≡ true) × ((0 < item.count) × IsTidyAfter item.tag items)

-- the items of a text: none, or such as begin in the first row
abbrev pub IsTidy : List Item → Type 0
IsTidy items = (items ≡ []) ⊎ IsTidyAfter RowEnd items

-- the items of a body word: it may also begin by going down
abbrev pub IsTidyBody : List Item → Type 0
IsTidyBody items = IsTidy items ⊎ IsTidyAfter Alive items

-- pieces in lines: a line is ended only where the next piece would pass 70 characters
abbrev pub folded : ℕ → List (List ℕ) → List ℕ
folded column [] = []
folded column (piece ∷ pieces) =
    if nat_le (column + length piece) 70 then piece ++ folded (column + length piece) pieces
    else 10 ∷ (piece ++ folded (length piece) pieces)

-- the top left of the box of what lives, and its size; (0,0) and no size where nothing does
abbrev pub IsFrame : Plane → Cell → ℕ → ℕ → Type 0
IsFrame s place width height =
    ((s ≡ nothing) × ((place ≡ cell (pos 0) (pos 0)) × ((width ≡ 0) × (height ≡ 0))))
    ⊎ ((box : Bounds) × (IsLeastBox box s × ((place ≡ cell box.left box.top) × ((pos width ≡ (box.right -ℤ box.left) +ℤ pos 1) × (pos height ≡ (box.bottom -ℤ box.top) +ℤ pos 1)))))

abbrev pub place_line : Cell → List ℕ
place_line place = ((codes "#CXRLE Pos=" ++ signed_decimal place.x) ++ (44 ∷ signed_decimal place.y)) ++ (10 ∷ [])

abbrev pub note_line : Option (List ℕ) → List ℕ
note_line None = []
note_line (Some note) = (codes "#C " ++ note) ++ (10 ∷ [])

abbrev pub header_line : ℕ → ℕ → List ℕ
header_line width height = ((codes "x = " ++ decimal width) ++ (codes ", y = " ++ decimal height)) ++ (codes ", rule = B3/S23" ++ (10 ∷ []))

-- the pieces of the body: the items' texts, and `!`
abbrev pub pieces : List Item → List (List ℕ)
pieces items = map item_text items ++ ((33 ∷ []) ∷ [])

-- the text of a set, with a note or without
pub record IsRleText (s : Plane) (note : Option (List ℕ)) (text : List ℕ) : Type 0 where
  pub place : Cell
  pub width : ℕ
  pub height : ℕ
  pub items : List Item
  pub frame : IsFrame s place width height
  pub tidy : IsTidy items
  pub cells : AreCells place items s
  pub whole : text ≡ ((place_line place ++ note_line note) ++ header_line width height) ++ (folded 0 (pieces items) ++ (10 ∷ []))

-- the body word of a set with no negative coordinate
pub record IsBodyText (s : Plane) (text : List ℕ) : Type 0 where
  pub items : List Item
  pub tidy : IsTidyBody items
  pub cells : AreCells (cell (pos 0) (pos 0)) items s
  pub whole : text ≡ flat_map (λ piece. piece) (pieces items)

-- a text with this property was appended
abbrev pub Appends : List ℕ → List ℕ → (List ℕ → Type 0) → Type 0
Appends old new P = (text : List ℕ) × ((new ≡ old ++ text) × P text)

-- no byte of a note is a line feed
abbrev pub HasNoLineBreak : Option (List ℕ) → Type 0
HasNoLineBreak None = Unit {0}
HasNoLineBreak (Some note) = AllByRecursion (λ b. b ≢ 10) note
