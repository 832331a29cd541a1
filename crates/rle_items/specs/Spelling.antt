-- How items are spelled: an optional count, and a tag.
use Rattle.std.specs.Prelude.{◌≡◌, ℕ, ◌<◌, Bool, ◌||◌, ◌==◌, List, [], ◌∷◌, ◌++◌, if◌then◌else◌, Option}
use Rattle.std.specs.List.{AllByRecursion}
use Rattle.std.specs.Prelude.{true}
use Rattle.std.specs.declared.option.Option.TheVariants.{Some, None}
use Rattle.rle_items.specs.Numbers.{IsNatural}
use Rattle.rle_items.specs.declared.item.Item.{Item}
use Rattle.rle_items.specs.declared.item.Tag.{Tag}
use Rattle.rle_items.specs.declared.item.Tag.TheVariants.{Dead, Alive, RowEnd}

-- `b` and `.` are dead, `o` and `A` are alive, `$` ends a row
abbrev pub tag_of : ℕ → Option Tag
tag_of b =
    if b == 98 || b == 46 then Some Dead
    else if b == 111 || b == 65 then Some Alive
    else if b == 36 then Some RowEnd else None

-- no digits count once; else it is a number that isn't zero
abbrev pub IsCount : List ℕ → ℕ → Type 0
IsCount [] n = n ≡ 1
IsCount (d ∷ ds) n = IsNatural (d ∷ ds) n × (0 < n)

-- a space, a tab, a line feed or a carriage return
abbrev pub is_white : ℕ → Bool
is_white b = (b == 32 || b == 9) || (b == 10 || b == 13)

-- white space, or nothing
abbrev pub IsWhite : List ℕ → Type 0
IsWhite gap = AllByRecursion (λ b. is_white b ≡ true) gap

-- nothing
abbrev pub IsNone : List ℕ → Type 0
IsNone gap = gap ≡ []

-- one item, with such gaps before its count and before its tag
pub record SpellsItem (Gap : List ℕ → Type 0) (text : List ℕ) (item : Item) : Type 0 where
  pub before : List ℕ
  pub digits : List ℕ
  pub between : List ℕ
  pub tag : ℕ
  pub whole : text ≡ ((before ++ digits) ++ between) ++ (tag ∷ [])
  pub gap_before : Gap before
  pub gap_between : Gap between
  pub count : IsCount digits item.count
  pub tag_is : tag_of tag ≡ Some item.tag

-- items, one after the other
abbrev pub Spells : (List ℕ → Type 0) → List ℕ → List Item → Type 0
Spells Gap text [] = text ≡ []
Spells Gap text (item ∷ items) = (first : List ℕ) × ((rest : List ℕ) × ((text ≡ first ++ rest) × (SpellsItem Gap first item × Spells Gap rest items)))
