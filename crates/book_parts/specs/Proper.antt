-- When the parts of a book are proper: their numbers and counts are within the limits, and their names are names.
use Rattle.std.specs.Prelude.{◌≡◌, ◌≢◌, ℕ, ◌+◌, ◌<◌, ◌≤◌, true, ℤ, pos, neg_ℤ, List, [], ◌∷◌, ◌++◌, length, map, sum_by}
use Rattle.std.specs.List.{AllByRecursion}
use Rattle.std.specs.declared.option.Option.{Option}
use Rattle.std.specs.declared.option.Option.TheVariants.{Some, None}
use Rattle.life_plane.specs.Plane.{Plane}
use Rattle.life_cells.specs.Cells.{alive, in_order}
use Rattle.life_cells.specs.declared.cell.Cell.{Cell}
use Rattle.book_parts.specs.declared.limits.TheConstants.{MOST_KINDS, MOST_TURNS, MOST_SALVOS, MOST_DELAYS, MOST_LANES, MOST_CELLS, GREATEST_COORDINATE, GREATEST_INDEX, LONGEST_DELAY, LONGEST_TURN}
use Rattle.book_parts.specs.Limits.{IsFrom, IsCoordinate, IsPlaced, IsName, AreProper}
use Rattle.book_parts.specs.declared.kind.RawKind.{RawKind}
use Rattle.book_parts.specs.declared.turn.RawTurn.{RawTurn}
use Rattle.book_parts.specs.declared.turn.TurnEnd.{TurnEnd}
use Rattle.book_parts.specs.declared.turn.TurnEnd.TheVariants.{Close, Move, Emit}
use Rattle.book_parts.specs.declared.salvo.RawSalvo.{RawSalvo}
use Rattle.book_parts.specs.Said.{Said}

-- a plane with a live cell
abbrev pub HasLife : Plane → Type 0
HasLife s = (x : ℤ) × ((y : ℤ) × (s x y ≡ true))

-- the number of one of so many kinds, counted from 1
pub record IsKindNumber (kinds number : ℕ) : Type 0 where
  pub some : 1 ≤ number
  pub most : number ≤ kinds

-- a delay of a turn, in generations
abbrev pub IsDelay : ℤ → Type 0
IsDelay delay = IsFrom (pos 0) LONGEST_DELAY delay

-- the index of a thrown glider
abbrev pub IsIndex : ℤ → Type 0
IsIndex j = IsFrom (neg_ℤ GREATEST_INDEX) GREATEST_INDEX j

-- what a turn leaves, in a book with so many kinds
abbrev pub IsProperEnd : ℕ → TurnEnd → Type 0
IsProperEnd kinds Close = Unit {0}
IsProperEnd kinds (Move kind shift) = IsKindNumber kinds kind × IsCoordinate shift
IsProperEnd kinds (Emit kind shift lane j) = IsKindNumber kinds kind × (IsCoordinate shift × (IsCoordinate lane × IsIndex j))

-- a turn, in a book with so many kinds
pub record IsProperTurn (kinds : ℕ) (turn : RawTurn) : Type 0 where
  pub name : IsName turn.name
  pub kind : IsKindNumber kinds turn.kind
  pub leaves : IsProperEnd kinds turn.end
  pub short : turn.n ≤ LONGEST_TURN
  pub some : 0 < length turn.delays
  pub few : length turn.delays ≤ MOST_DELAYS
  pub delays : AllByRecursion IsDelay turn.delays

pub record IsProperKind (kind : RawKind) : Type 0 where
  pub name : IsName kind.name
  pub lives : HasLife (alive kind.cells)
  pub placed : IsPlaced (alive kind.cells)

-- where a salvo leaves the hand, if it leaves one
abbrev pub IsProperPlace : Option Cell → Type 0
IsProperPlace None = Unit {0}
IsProperPlace (Some place) = IsCoordinate place.x × IsCoordinate place.y

pub record IsProperSalvo (salvo : RawSalvo) : Type 0 where
  pub name : IsName salvo.name
  pub some : 0 < length salvo.lanes
  pub few : length salvo.lanes ≤ MOST_LANES
  pub lanes : AllByRecursion IsCoordinate salvo.lanes
  pub product : IsPlaced (alive salvo.product)
  pub hand : IsProperPlace salvo.hand

-- a hand lives, and begins right of and below the place (0,0)
pub record IsProperHand (s : Plane) : Type 0 where
  pub lives : HasLife s
  pub placed : IsPlaced s
  pub x : (x y : ℤ) → s x y ≡ true → IsFrom (pos 0) GREATEST_COORDINATE x
  pub y : (x y : ℤ) → s x y ≡ true → IsFrom (pos 0) GREATEST_COORDINATE y

-- a text is none of these
abbrev pub IsNoneOf : List (List ℕ) → List ℕ → Type 0
IsNoneOf names name = AllByRecursion (λ other. other ≢ name) names

-- no two of these texts are the same
abbrev pub AreDistinct : List (List ℕ) → Type 0
AreDistinct [] = Unit {0}
AreDistinct (name ∷ names) = IsNoneOf names name × AreDistinct names

-- the live cells of all bodies
abbrev pub live_cells : Said → ℕ
live_cells book =
    length (in_order book.hand) + (sum_by (λ (kind : RawKind). length (in_order kind.cells)) book.kinds
    + sum_by (λ (salvo : RawSalvo). length (in_order salvo.product)) book.salvos)

-- the names of turns and salvos
abbrev pub entry_names : Said → List (List ℕ)
entry_names book = map (λ (turn : RawTurn). turn.name) book.turns ++ map (λ (salvo : RawSalvo). salvo.name) book.salvos

-- A whole book: its parts are proper, its counts within the limits, and its names distinct.
pub record IsProperBook (book : Said) : Type 0 where
  pub settings : AreProper book.settings
  pub hand : IsProperHand (alive book.hand)
  pub some_kind : 0 < length book.kinds
  pub few_kinds : length book.kinds ≤ MOST_KINDS
  pub kinds : AllByRecursion IsProperKind book.kinds
  pub kind_names : AreDistinct (map (λ (kind : RawKind). kind.name) book.kinds)
  pub start : IsKindNumber (length book.kinds) book.start
  pub few_turns : length book.turns ≤ MOST_TURNS
  pub turns : AllByRecursion (IsProperTurn (length book.kinds)) book.turns
  pub few_salvos : length book.salvos ≤ MOST_SALVOS
  pub salvos : AllByRecursion IsProperSalvo book.salvos
  pub names : AreDistinct (entry_names book)
  pub few_cells : live_cells book ≤ MOST_CELLS
