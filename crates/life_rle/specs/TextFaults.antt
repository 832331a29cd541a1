-- Where the reading of a text stops, the first fault in the order of the text.
use Rattle.std.specs.Prelude.{◌≡◌, ℕ, ◌+◌, ◌⊎◌, true, false, List, length}
use Rattle.std.specs.List.{AllByRecursion}
use Rattle.std.specs.Str.Lines.{lines}
use Rattle.life_cells.specs.declared.cell.Cell.{Cell}
use Rattle.rle_items.specs.declared.item.Item.{Item}
use Rattle.rle_items.specs.declared.error.BodyError.{BodyError}
use Rattle.rle_items.specs.declared.error.BodyError.TheVariants as item
use Rattle.rle_items.specs.Spelling.{IsWhite}
use Rattle.rle_items.specs.Reach.{IsInReach, AreFineFrom}
use Rattle.rle_items.specs.ItemFaults.{BeginsAt, ItemsStopWith}
use Rattle.life_rle.specs.declared.error.RleError.{RleError}
use Rattle.life_rle.specs.declared.error.RleError.TheVariants.{NoHeader, BadHeader, BadRule, BadItem, BadCount, NoEnd, TooFar, TooMany, Memory}
use Rattle.text_lines.specs.Lines.{first_line}
use Rattle.text_lines.specs.Blanks.{IsPassedOver}
use Rattle.life_rle.specs.Rests.{BeginsWithLines}
use Rattle.life_rle.specs.Comments.{blanked}
use Rattle.life_rle.specs.Header.{HasHeaderForm, IsHeader}
use Rattle.life_rle.specs.Text.{gives_place, IsAtHeader, HasBody, Says}

-- ---- before the items

-- the header's line, counted from 1, has another form
pub record HasBadHeader (text : List ℕ) (line : ℕ) : Type 0 where
  pub head : List (List ℕ)
  pub rest : List ℕ
  pub at_header : IsAtHeader text head rest
  pub other : ¬ HasHeaderForm (first_line rest)
  pub number : line ≡ length head + 1

-- it has the form of a header, and names another rule
pub record HasBadRule (text : List ℕ) (line : ℕ) : Type 0 where
  pub head : List (List ℕ)
  pub rest : List ℕ
  pub at_header : IsAtHeader text head rest
  pub form : HasHeaderForm (first_line rest)
  pub other : ¬ IsHeader (first_line rest)
  pub number : line ≡ length head + 1

-- the first line that may give the place begins here
pub record HasPlaceLine (text : List ℕ) (at : ℕ) : Type 0 where
  pub before : List (List ℕ)
  pub rest : List ℕ
  pub lines_are : BeginsWithLines text before rest
  pub others : AllByRecursion (λ line. gives_place line ≡ false) before
  pub gives : gives_place (first_line rest) ≡ true
  pub place : BeginsAt text rest at

-- the place is out of reach, and its line begins here
pub record HasFarPlace (text : List ℕ) (at : ℕ) : Type 0 where
  pub place : Cell
  pub body : List ℕ
  pub has_body : HasBody text place body
  pub far : ¬ IsInReach place
  pub line : HasPlaceLine text at

-- ---- the items

-- a text has a reading, and it is within the limits
pub record IsFineText (text : List ℕ) : Type 0 where
  pub place : Cell
  pub items : List Item
  pub says : Says text place items
  pub fine : AreFineFrom place items

-- what stops the reading of items, as a text tells it
abbrev pub of_items : BodyError → RleError
of_items (item.BadItem at) = BadItem at
of_items (item.BadCount at) = BadCount at
of_items item.NoEnd = NoEnd
of_items (item.TooFar at) = TooFar at
of_items (item.TooMany count) = TooMany count
of_items item.Memory = Memory

-- the header is one, the place is in reach, and the reading of the items, comments aside, stops with this refusal
pub record BodyStopsWith (text : List ℕ) (error : BodyError) : Type 0 where
  pub place : Cell
  pub body : List ℕ
  pub has_body : HasBody text place body
  pub stops : ItemsStopWith IsWhite text place (blanked body) error

-- the reading stops with this refusal before the items
abbrev pub StartStopsWith : List ℕ → RleError → Type 0
StartStopsWith text NoHeader = AllByRecursion IsPassedOver (lines text)
StartStopsWith text (BadHeader line) = HasBadHeader text line
StartStopsWith text (BadRule line) = HasBadRule text line
StartStopsWith text (TooFar at) = HasFarPlace text at
StartStopsWith text (BadItem at) = ⊥
StartStopsWith text (BadCount at) = ⊥
StartStopsWith text NoEnd = ⊥
StartStopsWith text (TooMany count) = ⊥
StartStopsWith text Memory = ⊥

-- the reading of a text stops with this refusal
abbrev pub TextStopsWith : List ℕ → RleError → Type 0
TextStopsWith text NoHeader = AllByRecursion IsPassedOver (lines text)
TextStopsWith text (BadHeader line) = HasBadHeader text line
TextStopsWith text (BadRule line) = HasBadRule text line
TextStopsWith text (TooFar at) = HasFarPlace text at ⊎ BodyStopsWith text (item.TooFar at)
TextStopsWith text (BadItem at) = BodyStopsWith text (item.BadItem at)
TextStopsWith text (BadCount at) = BodyStopsWith text (item.BadCount at)
TextStopsWith text NoEnd = BodyStopsWith text item.NoEnd
TextStopsWith text (TooMany count) = BodyStopsWith text (item.TooMany count)
TextStopsWith text Memory = Unit {0}

-- the refusal is for a limit, or for want of memory
abbrev pub IsForLimit : RleError → Type 0
IsForLimit (TooFar at) = Unit {0}
IsForLimit (TooMany count) = Unit {0}
IsForLimit Memory = Unit {0}
IsForLimit NoHeader = ⊥
IsForLimit (BadHeader line) = ⊥
IsForLimit (BadRule line) = ⊥
IsForLimit (BadItem at) = ⊥
IsForLimit (BadCount at) = ⊥
IsForLimit NoEnd = ⊥
