-- Numbers and bodies in a line, and how far they are looked at.
use Rattle.std.specs.Prelude.{◌≡◌, ◌≢◌, ℕ, ◌<◌, ◌^◌, ◌⊎◌, true, ℤ, pos, neg_ℤ, List, ◌∷◌, length, codes}
use Rattle.std.specs.List.{AllZip}
use Rattle.life_plane.specs.Plane.{Plane, shift}
use Rattle.life_cells.specs.Cells.{alive, in_order}
use Rattle.life_cells.specs.declared.cell.Cell.{Cell}
use Rattle.rle_items.specs.Numbers.{IsNatural}
use Rattle.rle_items.specs.Words.{WordMeans}
use Rattle.rle_items.specs.Faults.{IsFineWord, StopsWith}
use Rattle.rle_items.specs.declared.error.BodyError.TheVariants as refusal
use Rattle.book_parts.specs.Limits.{IsFrom}
use Rattle.book_lines.specs.declared.statement.Body.{Body}
use Rattle.book_lines.specs.declared.statement.Body.TheVariants.{Drawn, TooMany}

-- how far a line is looked at, each time farther
pub data Level : Type 0 where
  -- any text but `:` may stand for a number or a body
  Form : Level
  -- its numbers are numbers
  Numbers : Level
  -- and its bodies are read
  Bodies : Level
  -- and have a live cell
  Whole : Level

-- an optional '-' and from 1 to 18 digits
abbrev pub IsNumber : List ℕ → ℤ → Type 0
IsNumber text z =
    ((n : ℕ) × (IsNatural text n × (z ≡ pos n)))
    ⊎ ((digits : List ℕ) × ((n : ℕ) × ((text ≡ 45 ∷ digits) × (IsNatural digits n × (z ≡ neg_ℤ (pos n))))))

-- what 18 digits can spell, with a '-' or without
abbrev pub IsSmall : ℤ → Type 0
IsSmall z = IsFrom (neg_ℤ (pos (10 ^ 18))) (pos (10 ^ 18)) z

-- a text stands for this number
abbrev pub IsNumberAt : Level → List ℕ → ℤ → Type 0
IsNumberAt Form text z = text ≢ codes ":"
IsNumberAt other text z = IsNumber text z

-- texts stand for these numbers, and there is one at least
pub record AreNumbersAt (level : Level) (texts : List (List ℕ)) (zs : List ℤ) : Type 0 where
  pub each : AllZip (IsNumberAt level) texts zs
  pub some : 0 < length texts

-- a body word draws this, its first item at a place
abbrev pub Draws : List ℕ → Cell → Body → Type 0
Draws word at (Drawn cells) = IsFineWord word × ((drawn : Plane) × (WordMeans word drawn × (alive cells ≡ shift at.x at.y drawn)))
Draws word at (TooMany count) = StopsWith word (refusal.TooMany count)

-- how many live cells a body has
abbrev pub body_count : Body → ℕ
body_count (Drawn cells) = length (in_order cells)
body_count (TooMany count) = count

-- a body has a live cell
abbrev pub HasLiveCell : Body → Type 0
HasLiveCell (Drawn cells) = (x : ℤ) × ((y : ℤ) × (alive cells x y ≡ true))
HasLiveCell (TooMany count) = Unit {0}

-- a text stands for this body, its first item at a place
abbrev pub IsBodyAt : Level → List ℕ → Cell → Body → Type 0
IsBodyAt Form word at body = word ≢ codes ":"
IsBodyAt Numbers word at body = word ≢ codes ":"
IsBodyAt Bodies word at body = Draws word at body
IsBodyAt Whole word at body = Draws word at body × HasLiveCell body
