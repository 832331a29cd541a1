-- What a whole text says: comments, one header, items, and `!`.
use Rattle.std.specs.Prelude.{◌≡◌, ℕ, Bool, ◌⊎◌, pos, List, [], ◌∷◌, ◌++◌, find, codes, nat_eq, MatchOption}
use Rattle.std.specs.List.{AllByRecursion, starts_with}
use Rattle.life_plane.specs.Plane.{Plane}
use Rattle.life_cells.specs.Cells.{cell}
use Rattle.life_cells.specs.declared.cell.Cell.{Cell}
use Rattle.rle_items.specs.declared.item.Item.{Item}
use Rattle.rle_items.specs.Numbers.{IsWhole}
use Rattle.rle_items.specs.Items.{AreCells}
use Rattle.rle_items.specs.Spelling.{Spells, IsWhite}
use Rattle.text_lines.specs.Lines.{first_line, behind}
use Rattle.life_rle.specs.Rests.{BeginsWithLines}
use Rattle.life_rle.specs.Comments.{blanked}
use Rattle.text_lines.specs.Blanks.{words, IsPassedOver}
use Rattle.life_rle.specs.Header.{IsHeader}

-- a word `Pos=x,y`
pub record IsPlaceWord (word : List ℕ) (place : Cell) : Type 0 where
  pub x : List ℕ
  pub y : List ℕ
  pub whole : word ≡ (codes "Pos=" ++ x) ++ (44 ∷ y)
  pub x_is : IsWhole x place.x
  pub y_is : IsWhole y place.y

-- the place of the first word `Pos=x,y`; without one it is (0,0)
abbrev pub IsPlaceIn : List (List ℕ) → Cell → Type 0
IsPlaceIn [] place = place ≡ cell (pos 0) (pos 0)
IsPlaceIn (w ∷ ws) place = IsPlaceWord w place ⊎ (((other : Cell) → IsPlaceWord w other → ⊥) × IsPlaceIn ws place)

-- a line that may give the place: it begins with `#CXRLE`
abbrev pub gives_place : List ℕ → Bool
gives_place line = starts_with nat_eq line (codes "#CXRLE")

-- the place that the lines before the header give: that of the first that begins so
abbrev pub IsPlace : List (List ℕ) → Cell → Type 0
IsPlace head place = MatchOption (find gives_place head) (place ≡ cell (pos 0) (pos 0)) (λ line. IsPlaceIn (words line) place)

-- comments and blank lines are passed over, and behind them begins a line that is none
pub record IsAtHeader (text : List ℕ) (head : List (List ℕ)) (rest : List ℕ) : Type 0 where
  pub lines_are : BeginsWithLines text head rest
  pub passed : AllByRecursion IsPassedOver head
  pub other : ¬ IsPassedOver (first_line rest)

-- that line is a header; the lines before it give this place, and behind it is this body
pub record HasBody (text : List ℕ) (place : Cell) (body : List ℕ) : Type 0 where
  pub head : List (List ℕ)
  pub rest : List ℕ
  pub at_header : IsAtHeader text head rest
  pub header : IsHeader (first_line rest)
  pub place_is : IsPlace head place
  pub body_is : behind rest ≡ body

-- a text says this place and these items
pub record Says (text : List ℕ) (place : Cell) (items : List Item) : Type 0 where
  pub body : List ℕ
  pub has_body : HasBody text place body
  -- comments aside: the items, white space, `!`, and what is ignored
  pub written : List ℕ
  pub gap : List ℕ
  pub ignored : List ℕ
  pub body_is : blanked body ≡ (written ++ gap) ++ (33 ∷ ignored)
  pub gap_is : IsWhite gap
  pub items_are : Spells IsWhite written items

-- the live cells that a text means
pub record Means (text : List ℕ) (s : Plane) : Type 0 where
  pub place : Cell
  pub items : List Item
  pub says : Says text place items
  pub cells : AreCells place items s
