-- Where the reading of items stops, whatever may stand between them: the first fault from their front.
use Rattle.std.specs.Prelude.{◌≡◌, ◌≢◌, ℕ, ◌+◌, ◌<◌, ◌^◌, ◌⊎◌, List, [], ◌∷◌, ◌++◌, length}
use Rattle.std.specs.declared.option.Option.TheVariants.{None}
use Rattle.life_cells.specs.declared.cell.Cell.{Cell}
use Rattle.rle_items.specs.declared.item.Item.{Item}
use Rattle.rle_items.specs.declared.error.BodyError.{BodyError}
use Rattle.rle_items.specs.declared.error.BodyError.TheVariants.{BadItem, BadCount, NoEnd, TooFar, TooMany, Memory}
use Rattle.rle_items.specs.Numbers.{value}
use Rattle.rle_items.specs.Items.{live}
use Rattle.rle_items.specs.Spelling.{Spells, IsCount, tag_of}
use Rattle.rle_items.specs.Gaps.{IsAtTag, IsNextItem}
use Rattle.rle_items.specs.Reach.{IsInReach, cursor_behind, AreFineFrom}

-- the rest of a text begins at this place of it
abbrev pub BeginsAt : List ℕ → List ℕ → ℕ → Type 0
BeginsAt text rest at = at + length rest ≡ length text

-- digits that are no count: they spell zero, are more than 18, or the next tag is `!`
abbrev pub AreNoCount : List ℕ → List ℕ → Type 0
AreNoCount digits at_tag = (value digits ≡ 0) ⊎ ((18 < length digits) ⊎ ((ignored : List ℕ) × (at_tag ≡ 33 ∷ ignored)))

module _ (Gap : List ℕ → Type 0) where
  -- the next digits begin here and are no count
  pub record HasBadCount (text rest : List ℕ) (at : ℕ) : Type 0 where
    pub from : List ℕ
    pub digits : List ℕ
    pub at_tag : List ℕ
    pub at_is : IsAtTag Gap rest from digits at_tag
    pub some : 0 < length digits
    pub bad : AreNoCount digits at_tag
    pub place : BeginsAt text from at

  -- where a tag should stand, behind a count or none, is a byte that is none and no `!`: the digit of another count, too
  pub record HasStray (text rest : List ℕ) (at : ℕ) : Type 0 where
    pub from : List ℕ
    pub digits : List ℕ
    pub number : ℕ
    pub byte : ℕ
    pub more : List ℕ
    pub at_is : IsAtTag Gap rest from digits (byte ∷ more)
    pub count : IsCount digits number
    pub no_tag : tag_of byte ≡ None
    pub no_end : byte ≢ 33
    pub place : BeginsAt text (byte ∷ more) at

  -- the text ends where a tag should stand, behind a count or none
  pub record EndsEarly (rest : List ℕ) : Type 0 where
    pub from : List ℕ
    pub digits : List ℕ
    pub number : ℕ
    pub at_is : IsAtTag Gap rest from digits []
    pub count : IsCount digits number

  -- with the next item the cursor is out of reach
  pub record IsTooFar (text : List ℕ) (place : Cell) (rest : List ℕ) (items : List Item) (at : ℕ) : Type 0 where
    pub item : Item
    pub tag : ℕ
    pub more : List ℕ
    pub next : IsNextItem Gap rest item tag more
    pub far : ¬ IsInReach (cursor_behind place (items ++ (item ∷ [])))
    pub tag_at : BeginsAt text (tag ∷ more) at

  -- with the next item the cursor is in reach, and there are too many live cells
  pub record IsTooMany (place : Cell) (rest : List ℕ) (items : List Item) (count : ℕ) : Type 0 where
    pub item : Item
    pub tag : ℕ
    pub more : List ℕ
    pub next : IsNextItem Gap rest item tag more
    pub near : IsInReach (cursor_behind place (items ++ (item ∷ [])))
    pub count_is : count ≡ live (items ++ (item ∷ []))
    pub many : 2 ^ 18 < count

  -- what stands behind these items, at the front of this rest of a text, is this fault
  abbrev pub IsFault : List ℕ → Cell → List ℕ → List Item → BodyError → Type 0
  IsFault text place rest items (BadItem at) = HasStray text rest at
  IsFault text place rest items (BadCount at) = HasBadCount text rest at
  IsFault text place rest items NoEnd = EndsEarly rest
  IsFault text place rest items (TooFar at) = IsTooFar text place rest items at
  IsFault text place rest items (TooMany count) = IsTooMany place rest items count
  IsFault text place rest items Memory = Unit {0}

  -- fine items from the place on are spelled at the front of the body, and this is what follows them
  pub record IsReadTo (place : Cell) (body rest : List ℕ) (items : List Item) : Type 0 where
    pub front : List ℕ
    pub split : body ≡ front ++ rest
    pub spelled : Spells Gap front items
    pub fine : AreFineFrom place items

  -- the reading of the items of a body, which a text ends with, stops with this refusal
  pub record ItemsStopWith (text : List ℕ) (place : Cell) (body : List ℕ) (error : BodyError) : Type 0 where
    pub items : List Item
    pub rest : List ℕ
    pub read : IsReadTo place body rest items
    pub fault : IsFault text place rest items error

-- the refusal is for a limit, or for want of memory
abbrev pub IsForLimit : BodyError → Type 0
IsForLimit (BadItem at) = ⊥
IsForLimit (BadCount at) = ⊥
IsForLimit NoEnd = ⊥
IsForLimit (TooFar at) = Unit {0}
IsForLimit (TooMany count) = Unit {0}
IsForLimit Memory = Unit {0}
