-- The words of each part's line.
use Rattle.std.specs.Prelude.{◌≡◌, ℕ, zero, suc, ◌⊎◌, ℤ, neg_ℤ, List, [], ◌∷◌, ◌++◌, map, codes, Option}
use Rattle.std.specs.Fmt.{decimal, signed_decimal}
use Rattle.std.specs.declared.option.Option.TheVariants.{Some, None}
use Rattle.life_plane.specs.Plane.{Plane, nothing, shift}
use Rattle.life_cells.specs.Cells.{Cells, alive}
use Rattle.life_cells.specs.Boxes.{IsLeastBox}
use Rattle.life_cells.specs.declared.cell.Cell.{Cell}
use Rattle.life_cells.specs.declared.bounds.Bounds.{Bounds}
use Rattle.life_rle.specs.Written.{IsBodyText}
use Rattle.book_parts.specs.declared.settings.Settings.{Settings}
use Rattle.book_parts.specs.declared.kind.RawKind.{RawKind}
use Rattle.book_parts.specs.declared.turn.RawTurn.{RawTurn}
use Rattle.book_parts.specs.declared.turn.TurnEnd.{TurnEnd}
use Rattle.book_parts.specs.declared.turn.TurnEnd.TheVariants.{Close, Move, Emit}
use Rattle.book_parts.specs.declared.salvo.RawSalvo.{RawSalvo}
use Rattle.book_lines.specs.declared.book_word.BookWord.{BookWord}
use Rattle.book_lines.specs.declared.book_word.BookWord.TheVariants as word
use Rattle.book_lines.specs.Words.{word_text}
use Rattle.book_read.specs.Stated.{coordinates, range_numbers}

-- `scbook 1`
abbrev pub version_words : List (List ℕ)
version_words = codes "scbook" ∷ (codes "1" ∷ [])

-- `X Y`
abbrev pub place_words : Cell → List (List ℕ)
place_words c = signed_decimal c.x ∷ (signed_decimal c.y ∷ [])

-- the line of a setting: its word and its numbers
abbrev pub setting_line : BookWord → List ℤ → List (List ℕ)
setting_line word numbers = word_text word ∷ map signed_decimal numbers

-- the lines of the settings, but for the hand
abbrev pub settings_words : Settings → List (List (List ℕ))
settings_words s =
    setting_line word.Approach (s.approach ∷ [])
    ∷ (setting_line word.Wall (s.wall ∷ [])
    ∷ (setting_line word.Reach (s.reach ∷ [])
    ∷ (setting_line word.Corner (coordinates s.corner)
    ∷ (setting_line word.Room (s.room ∷ [])
    ∷ (setting_line word.Span (s.span ∷ [])
    ∷ (setting_line word.Lanes (range_numbers s.lanes)
    ∷ (setting_line word.Delays (range_numbers s.delays) ∷ [])))))))

-- a body word of what lives, as it lies
pub record IsBodyWord (s : Plane) (words : List (List ℕ)) : Type 0 where
  pub body : List ℕ
  pub body_is : IsBodyText s body
  pub words_are : words ≡ body ∷ []

-- `hand BODY`
pub record IsHandLine (hand : Cells) (words : List (List ℕ)) : Type 0 where
  pub drawn : List (List ℕ)
  pub drawn_is : IsBodyWord (alive hand) drawn
  pub words_are : words ≡ codes "hand" ∷ drawn

-- `X Y BODY`: the top left of the box of what lives, and the body word of what lives, moved from there to (0,0)
pub record IsPlacedText (s : Plane) (words : List (List ℕ)) : Type 0 where
  pub box : Bounds
  pub drawn : List (List ℕ)
  pub box_is : IsLeastBox box s
  pub drawn_is : IsBodyWord (shift (neg_ℤ box.left) (neg_ℤ box.top) s) drawn
  pub words_are : words ≡ signed_decimal box.left ∷ (signed_decimal box.top ∷ drawn)

-- `elbow NAME X Y BODY`
pub record IsKindLine (kind : RawKind) (words : List (List ℕ)) : Type 0 where
  pub placed : List (List ℕ)
  pub placed_is : IsPlacedText (alive kind.cells) placed
  pub words_are : words ≡ codes "elbow" ∷ (kind.name ∷ placed)

-- the name of the kind with this number, counted from 1
abbrev pub kind_name : List RawKind → ℕ → List ℕ
kind_name [] k = []
kind_name (kind ∷ kinds) zero = []
kind_name (kind ∷ kinds) (suc zero) = kind.name
kind_name (kind ∷ kinds) (suc (suc k)) = kind_name kinds (suc k)

-- `start NAME`
abbrev pub start_words : List RawKind → ℕ → List (List ℕ)
start_words kinds start = codes "start" ∷ (kind_name kinds start ∷ [])

-- `KIND SHIFT N`
abbrev pub step_words : List ℕ → ℤ → ℕ → List (List ℕ)
step_words kind shift n = kind ∷ (signed_decimal shift ∷ (decimal n ∷ []))

-- `close N`, `move KIND SHIFT N` or `emit KIND SHIFT N LANE J`
abbrev pub ending_words : List RawKind → TurnEnd → ℕ → List (List ℕ)
ending_words kinds Close n = codes "close" ∷ (decimal n ∷ [])
ending_words kinds (Move kind shift) n = codes "move" ∷ step_words (kind_name kinds kind) shift n
ending_words kinds (Emit kind shift lane j) n =
    codes "emit" ∷ (step_words (kind_name kinds kind) shift n ++ (signed_decimal lane ∷ (signed_decimal j ∷ [])))

-- `turn NAME KIND`, what it leaves, `:`, and its delays
abbrev pub turn_words : List RawKind → RawTurn → List (List ℕ)
turn_words kinds turn =
    codes "turn" ∷ (turn.name ∷ (kind_name kinds turn.kind ∷ (ending_words kinds turn.end turn.n ++ (codes ":" ∷ map signed_decimal turn.delays))))

-- `none` where nothing lives, else `X Y BODY`
abbrev pub IsProductText : Plane → List (List ℕ) → Type 0
IsProductText s words = ((s ≡ nothing) × (words ≡ codes "none" ∷ [])) ⊎ IsPlacedText s words

-- `none`, or `X Y`
abbrev pub hand_words : Option Cell → List (List ℕ)
hand_words None = codes "none" ∷ []
hand_words (Some place) = place_words place

-- `salvo NAME :`, its lanes, `:`, what it builds, `:`, and where it leaves the hand
pub record IsSalvoLine (salvo : RawSalvo) (words : List (List ℕ)) : Type 0 where
  pub product : List (List ℕ)
  pub product_is : IsProductText (alive salvo.product) product
  pub words_are :
      words ≡ codes "salvo" ∷ (salvo.name ∷ (codes ":" ∷ (map signed_decimal salvo.lanes ++ (codes ":" ∷ (product ++ (codes ":" ∷ hand_words salvo.hand))))))
