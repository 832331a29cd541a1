-- The forms of lines: what their items, the words behind the first, are.
use Rattle.std.specs.Prelude.{◌≡◌, ℕ, ℤ, pos, ◌≤ℤ◌, List, [], ◌∷◌, ◌++◌, length, codes}
use Rattle.std.specs.Prelude.{Option}
use Rattle.std.specs.declared.option.Option.TheVariants.{Some, None}
use Rattle.life_cells.specs.Cells.{cell}
use Rattle.life_cells.specs.declared.cell.Cell.{Cell}
use Rattle.book_parts.specs.Limits.{IsName}
use Rattle.book_lines.specs.declared.statement.Body.{Body}
use Rattle.book_lines.specs.declared.statement.Placed.{Placed}
use Rattle.book_lines.specs.declared.statement.SettingLine.{SettingLine}
use Rattle.book_lines.specs.declared.statement.NamedEnd.{NamedEnd}
use Rattle.book_lines.specs.declared.statement.NamedEnd.TheVariants.{Close, Move, Emit}
use Rattle.book_lines.specs.declared.statement.ElbowLine.{ElbowLine}
use Rattle.book_lines.specs.declared.statement.TurnLine.{TurnLine}
use Rattle.book_lines.specs.declared.statement.SalvoLine.{SalvoLine}
use Rattle.book_lines.specs.Limits.{limits}
use Rattle.book_lines.specs.Values.{Level, IsNumber, IsNumberAt, AreNumbersAt, IsBodyAt}

-- one number
pub record IsOneNumber (level : Level) (z : ℤ) (items : List (List ℕ)) : Type 0 where
  pub text : List ℕ
  pub items_are : items ≡ text ∷ []
  pub number : IsNumberAt level text z

-- `X Y`
pub record IsPair (level : Level) (c : Cell) (items : List (List ℕ)) : Type 0 where
  pub text_x : List ℕ
  pub text_y : List ℕ
  pub items_are : items ≡ text_x ∷ (text_y ∷ [])
  pub number_x : IsNumberAt level text_x c.x
  pub number_y : IsNumberAt level text_y c.y

-- LOW doesn't pass HIGH, where both are numbers
abbrev pub AreInOrder : List ℕ → List ℕ → Type 0
AreInOrder text_low text_high = (low high : ℤ) → IsNumber text_low low → IsNumber text_high high → low ≤ℤ high

-- LOW doesn't pass HIGH, where there are three items, which then are `LOW HIGH LEN`
abbrev pub KeepsOrder : List (List ℕ) → Type 0
KeepsOrder (low ∷ (high ∷ (len ∷ []))) = AreInOrder low high
KeepsOrder other = Unit {0}

-- the numbers of a setting: as many as it has limits
pub record IsSettingLine (level : Level) (setting : SettingLine) (items : List (List ℕ)) : Type 0 where
  pub numbers_are : AreNumbersAt level items setting.numbers
  pub count : length items ≡ length (limits setting.word)
  pub order : KeepsOrder items

-- `BODY`, its first item at (0,0)
pub record IsBody (level : Level) (body : Body) (items : List (List ℕ)) : Type 0 where
  pub word : List ℕ
  pub items_are : items ≡ word ∷ []
  pub body_is : IsBodyAt level word (cell (pos 0) (pos 0)) body

-- `X Y BODY`, its first item at (X,Y)
pub record IsPlacedBody (level : Level) (placed : Placed) (items : List (List ℕ)) : Type 0 where
  pub text_x : List ℕ
  pub text_y : List ℕ
  pub word : List ℕ
  pub items_are : items ≡ text_x ∷ (text_y ∷ (word ∷ []))
  pub number_x : IsNumberAt level text_x placed.at.x
  pub number_y : IsNumberAt level text_y placed.at.y
  pub body_is : IsBodyAt level word placed.at placed.body

-- `NAME X Y BODY`
pub record IsElbowLine (level : Level) (elbow : ElbowLine) (items : List (List ℕ)) : Type 0 where
  pub behind : List (List ℕ)
  pub items_are : items ≡ elbow.name ∷ behind
  pub name_is : IsName elbow.name
  pub placed_is : IsPlacedBody level elbow.placed behind

-- `NAME`
pub record IsOneName (name : List ℕ) (items : List (List ℕ)) : Type 0 where
  pub items_are : items ≡ name ∷ []
  pub name_is : IsName name

-- `KIND SHIFT N`, and these items follow
pub record IsNextKind (level : Level) (kind : List ℕ) (shift n : ℤ) (items more : List (List ℕ)) : Type 0 where
  pub text_shift : List ℕ
  pub text_n : List ℕ
  pub items_are : items ≡ kind ∷ (text_shift ∷ (text_n ∷ more))
  pub name_is : IsName kind
  pub number_shift : IsNumberAt level text_shift shift
  pub number_n : IsNumberAt level text_n n

-- `close N`, `move KIND SHIFT N` or `emit KIND SHIFT N LANE J`
abbrev pub IsEnding : Level → NamedEnd → ℤ → List (List ℕ) → Type 0
IsEnding level Close n items = (behind : List (List ℕ)) × ((items ≡ codes "close" ∷ behind) × IsOneNumber level n behind)
IsEnding level (Move kind shift) n items = (behind : List (List ℕ)) × ((items ≡ codes "move" ∷ behind) × IsNextKind level kind shift n behind [])
IsEnding level (Emit kind shift lane j) n items =
    (behind : List (List ℕ)) × ((more : List (List ℕ)) × ((items ≡ codes "emit" ∷ behind) × (IsNextKind level kind shift n behind more × IsPair level (cell lane j) more)))

-- `NAME KIND`, what the turn leaves, `:`, and its delays
pub record IsTurnLine (level : Level) (turn : TurnLine) (items : List (List ℕ)) : Type 0 where
  pub ending : List (List ℕ)
  pub delays : List (List ℕ)
  pub items_are : items ≡ turn.name ∷ (turn.kind ∷ (ending ++ (codes ":" ∷ delays)))
  pub name_is : IsName turn.name
  pub kind_is : IsName turn.kind
  pub ending_is : IsEnding level turn.end turn.n ending
  pub delays_are : AreNumbersAt level delays turn.delays

-- `none`, or `X Y BODY`
abbrev pub IsProduct : Level → Option Placed → List (List ℕ) → Type 0
IsProduct level None items = items ≡ codes "none" ∷ []
IsProduct level (Some placed) items = IsPlacedBody level placed items

-- `none`, or `X Y`
abbrev pub IsHand : Level → Option Cell → List (List ℕ) → Type 0
IsHand level None items = items ≡ codes "none" ∷ []
IsHand level (Some place) items = IsPair level place items

-- `NAME :`, the lanes, `:`, the product, `:`, and the hand's place
pub record IsSalvoLine (level : Level) (salvo : SalvoLine) (items : List (List ℕ)) : Type 0 where
  pub lanes : List (List ℕ)
  pub product : List (List ℕ)
  pub hand : List (List ℕ)
  pub items_are : items ≡ salvo.name ∷ (codes ":" ∷ (lanes ++ (codes ":" ∷ (product ++ (codes ":" ∷ hand)))))
  pub name_is : IsName salvo.name
  pub lanes_are : AreNumbersAt level lanes salvo.lanes
  pub product_is : IsProduct level salvo.product product
  pub hand_is : IsHand level salvo.hand hand
