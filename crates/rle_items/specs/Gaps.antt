-- Items with gaps: what may stand between them, and where a count and a tag stand.
use Rattle.std.specs.Prelude.{◌≡◌, ℕ, true, false, List, [], ◌∷◌, ◌++◌}
use Rattle.std.specs.Char.{is_ascii_digit}
use Rattle.std.specs.Str.{all_ascii_digits}
use Rattle.std.specs.declared.option.Option.TheVariants.{Some}
use Rattle.rle_items.specs.declared.gaps.Gaps.{Gaps}
use Rattle.rle_items.specs.declared.gaps.Gaps.TheVariants as gaps
use Rattle.rle_items.specs.declared.item.Item.{Item}
use Rattle.rle_items.specs.Spelling.{IsCount, IsNone, IsWhite, tag_of}

-- which bytes a gap is
abbrev pub gap_of : Gaps → List ℕ → Type 0
gap_of gaps.None = IsNone
gap_of gaps.White = IsWhite

-- the rest is the digits of a count, or none, and then more, which begins with no digit
pub record IsAtCount (rest digits more : List ℕ) : Type 0 where
  pub split : rest ≡ digits ++ more
  pub digits_are : all_ascii_digits digits ≡ true
  pub ended : (b : ℕ) (bs : List ℕ) → more ≡ b ∷ bs → is_ascii_digit b ≡ false

module _ (Gap : List ℕ → Type 0) where
  -- behind a gap, or none, stands more, which doesn't begin with one
  pub record IsPast (rest more : List ℕ) : Type 0 where
    pub gap : List ℕ
    pub split : rest ≡ gap ++ more
    pub gap_is : Gap gap
    pub ended : (b : ℕ) (bs : List ℕ) → more ≡ b ∷ bs → ¬ Gap (b ∷ [])

  -- behind a gap stand, from here on, the digits of a count, or none; and behind a gap again what should be a tag
  pub record IsAtTag (rest from digits at_tag : List ℕ) : Type 0 where
    pub more : List ℕ
    pub past : IsPast rest from
    pub count : IsAtCount from digits more
    pub next : IsPast more at_tag

  -- the item at the front of the rest, with its tag before what follows
  pub record IsNextItem (rest : List ℕ) (item : Item) (tag : ℕ) (more : List ℕ) : Type 0 where
    pub from : List ℕ
    pub digits : List ℕ
    pub at : IsAtTag rest from digits (tag ∷ more)
    pub count : IsCount digits item.count
    pub tag_is : tag_of tag ≡ Some item.tag

  -- a `!` behind a gap
  pub record IsAtEnd (rest : List ℕ) : Type 0 where
    pub ignored : List ℕ
    pub past : IsPast rest (33 ∷ ignored)
