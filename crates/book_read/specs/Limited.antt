-- A line's numbers and the counts that it raises, held against their limits.
use Rattle.std.specs.Prelude.{◌≡◌, ℕ, ◌+◌, ◌≤◌, ◌⊎◌, ℤ, pos, List, [], ◌∷◌, ◌++◌, length, map, sum_by, flat_map, Option}
use Rattle.std.specs.declared.option.Option.TheVariants.{Some, None}
use Rattle.std.specs.List.{zip}
use Rattle.life_cells.specs.Cells.{Cells, in_order}
use Rattle.life_cells.specs.declared.cell.Cell.{Cell}
use Rattle.book_parts.specs.declared.limits.TheConstants.{MOST_KINDS, MOST_TURNS, MOST_SALVOS, MOST_DELAYS, MOST_LANES, MOST_CELLS}
use Rattle.book_parts.specs.declared.kind.RawKind.{RawKind}
use Rattle.book_parts.specs.declared.salvo.RawSalvo.{RawSalvo}
use Rattle.book_lines.specs.declared.statement.Body.{Body}
use Rattle.book_lines.specs.declared.statement.Body.TheVariants.{Drawn, TooMany}
use Rattle.book_lines.specs.declared.statement.SettingLine.{SettingLine}
use Rattle.book_lines.specs.declared.statement.Placed.{Placed}
use Rattle.book_lines.specs.declared.statement.NamedEnd.{NamedEnd}
use Rattle.book_lines.specs.declared.statement.NamedEnd.TheVariants.{Close, Move, Emit}
use Rattle.book_lines.specs.declared.statement.Statement.{Statement}
use Rattle.book_lines.specs.declared.statement.Statement.TheVariants.{Setting, Hand, Elbow, Start, Turn, Salvo}
use Rattle.book_lines.specs.Limits.{IsWithin, limits}
use Rattle.book_lines.specs.Counts.{delay_count, lane_count, cell_count}
use Rattle.book_lines.specs.declared.limit.Limit.{Limit}
use Rattle.book_lines.specs.declared.limit.Limit.TheVariants as limit
use Rattle.book_read.specs.Stated.{Stated, joined}

-- a number, or a count, and the limit that it is held against
pub record Limited : Type 0 where
  pub limit : Limit
  pub number : ℤ

abbrev pub held : Limit → ℤ → Limited
held limit z = record { limit = limit; number = z }

-- the numbers of a setting, each with the limit at its place
abbrev pub setting_limited : SettingLine → List Limited
setting_limited setting = map (λ (p : Limit × ℤ). held p.0 p.1) (zip (limits setting.word) setting.numbers)

abbrev pub cell_numbers : Cell → List Limited
cell_numbers c = held limit.Coordinate c.x ∷ (held limit.Coordinate c.y ∷ [])

-- the coordinates of a body's cells, where it stands; of too many none is looked at
abbrev pub body_numbers : Body → List Limited
body_numbers (Drawn cells) = flat_map cell_numbers (in_order cells)
body_numbers (TooMany count) = []

abbrev pub placed_numbers : Placed → List Limited
placed_numbers placed = cell_numbers placed.at ++ body_numbers placed.body

abbrev pub end_numbers : NamedEnd → ℤ → List Limited
end_numbers Close n = held limit.Time n ∷ []
end_numbers (Move kind shift) n = held limit.Coordinate shift ∷ (held limit.Time n ∷ [])
end_numbers (Emit kind shift lane j) n = held limit.Coordinate shift ∷ (held limit.Time n ∷ (held limit.Coordinate lane ∷ (held limit.Index j ∷ [])))

abbrev pub product_numbers : Option Placed → List Limited
product_numbers None = []
product_numbers (Some placed) = placed_numbers placed

abbrev pub place_numbers : Option Cell → List Limited
place_numbers None = []
place_numbers (Some place) = cell_numbers place

-- the numbers of a line, in its order
abbrev pub numbers : Statement → List Limited
numbers (Setting setting) = setting_limited setting
numbers (Hand body) = body_numbers body
numbers (Elbow elbow) = placed_numbers elbow.placed
numbers (Start name) = []
numbers (Turn turn) = end_numbers turn.end turn.n ++ map (held limit.Delay) turn.delays
numbers (Salvo salvo) = map (held limit.Coordinate) salvo.lanes ++ (product_numbers salvo.product ++ place_numbers salvo.hand)

abbrev pub hand_count : Option Cells → ℕ
hand_count None = 0
hand_count (Some hand) = length (in_order hand)

-- the live cells of all bodies that are stated
abbrev pub stated_cells : Stated → ℕ
stated_cells stated =
    hand_count stated.hand + (sum_by (λ (kind : RawKind). length (in_order kind.cells)) stated.kinds
    + sum_by (λ (salvo : RawSalvo). length (in_order salvo.product)) stated.salvos)

-- the counts, with this line
abbrev pub counts : Stated → Statement → List Limited
counts stated s =
    held (limit.Count MOST_KINDS) (pos (length (joined stated s).kinds))
    ∷ (held (limit.Count MOST_TURNS) (pos (length (joined stated s).turns))
    ∷ (held (limit.Count MOST_SALVOS) (pos (length (joined stated s).salvos))
    ∷ (held (limit.Count MOST_DELAYS) (pos (delay_count s))
    ∷ (held (limit.Count MOST_LANES) (pos (lane_count s))
    ∷ (held (limit.Count MOST_CELLS) (pos (stated_cells stated + cell_count s)) ∷ [])))))

-- no count passes its limit with this line
pub record AreFew (stated : Stated) (s : Statement) : Type 0 where
  pub kinds : length (joined stated s).kinds ≤ MOST_KINDS
  pub turns : length (joined stated s).turns ≤ MOST_TURNS
  pub salvos : length (joined stated s).salvos ≤ MOST_SALVOS
  pub delays : delay_count s ≤ MOST_DELAYS
  pub lanes : lane_count s ≤ MOST_LANES
  pub cells : stated_cells stated + cell_count s ≤ MOST_CELLS

-- the first of these that is outside its limit is this number; none is, where there is no number
abbrev pub IsFirstOutside : List Limited → Option ℤ → Type 0
IsFirstOutside [] found = found ≡ None
IsFirstOutside (n ∷ ns) found = (IsWithin n.limit n.number × IsFirstOutside ns found) ⊎ ((IsWithin n.limit n.number → ⊥) × (found ≡ Some n.number))

-- the first number of a line outside its limits, or where there is none, the first count that passes its limit
abbrev pub IsOver : Stated → Statement → Option ℤ → Type 0
IsOver stated s found = IsFirstOutside (numbers s ++ counts stated s) found
