-- What stands before a header, and the place that it gives.
use Rattle.std.specs.Prelude.{◌≡◌, ℕ, ◌+◌, false, pos, List, length, Option, Some, None}
use Rattle.std.specs.List.{AllByRecursion, find}
use Rattle.life_cells.specs.Cells.{cell}
use Rattle.life_cells.specs.declared.cell.Cell.{Cell}
use Rattle.rle_items.specs.Reach.{IsInReach}
use Rattle.life_rle.specs.declared.start.PlaceLine.{PlaceLine}
use Rattle.life_rle.specs.declared.error.RleError.{RleError}
use Rattle.life_rle.specs.declared.error.RleError.TheVariants.{NoHeader, BadHeader, BadRule, BadItem, BadCount, NoEnd, TooFar, TooMany, Memory}
use Rattle.text_lines.specs.Blanks.{IsPassedOver, words}
use Rattle.life_rle.specs.Text.{gives_place, IsPlaceIn}
use Rattle.life_rle.specs.Rests.{BeginsWithLines}
use Rattle.life_rle.specs.TextFaults.{HasPlaceLine}

-- the first of these lines that may give the place, and where it begins in the text
abbrev pub HasFound : List ℕ → List (List ℕ) → Option PlaceLine → Type 0
HasFound text head None = AllByRecursion (λ line. gives_place line ≡ false) head
HasFound text head (Some found) = (find gives_place head ≡ Some found.line.now) × HasPlaceLine text found.at

-- lines before the rest are passed over, this was found among them, and the next line has this number
pub record IsOpened (text rest : List ℕ) (found : Option PlaceLine) (line : ℕ) : Type 0 where
  pub head : List (List ℕ)
  pub lines_are : BeginsWithLines text head rest
  pub passed : AllByRecursion IsPassedOver head
  pub found_is : HasFound text head found
  pub number : line ≡ length head + 1

-- the place that such a line gives; (0,0) without one
abbrev pub Gives : Option PlaceLine → Cell → Type 0
Gives None place = place ≡ cell (pos 0) (pos 0)
Gives (Some found) place = IsPlaceIn (words found.line.now) place

-- it is out of reach, and this names its line
pub record GivesFar (found : PlaceLine) (at : ℕ) : Type 0 where
  pub place : Cell
  pub gives : IsPlaceIn (words found.line.now) place
  pub far : ¬ IsInReach place
  pub at_is : at ≡ found.at

abbrev pub PlaceIsRefused : Option PlaceLine → RleError → Type 0
PlaceIsRefused found (TooFar at) = (line : PlaceLine) × ((found ≡ Some line) × GivesFar line at)
PlaceIsRefused found NoHeader = ⊥
PlaceIsRefused found (BadHeader line) = ⊥
PlaceIsRefused found (BadRule line) = ⊥
PlaceIsRefused found (BadItem at) = ⊥
PlaceIsRefused found (BadCount at) = ⊥
PlaceIsRefused found NoEnd = ⊥
PlaceIsRefused found (TooMany count) = ⊥
PlaceIsRefused found Memory = ⊥
