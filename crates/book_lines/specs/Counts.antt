-- What a line counts up: cells, delays, lanes.
use Rattle.std.specs.Prelude.{◌≡◌, ℕ, ◌<◌, ◌≤◌, ◌^◌, length, Option}
use Rattle.std.specs.declared.option.Option.TheVariants.{Some, None}
use Rattle.book_lines.specs.declared.statement.Placed.{Placed}
use Rattle.book_lines.specs.declared.statement.Statement.{Statement}
use Rattle.book_lines.specs.declared.statement.Statement.TheVariants.{Setting, Hand, Elbow, Turn, Salvo}
use Rattle.book_lines.specs.Limits.{limits}
use Rattle.book_lines.specs.Values.{body_count}

abbrev pub delay_count : Statement → ℕ
delay_count (Turn turn) = length turn.delays
delay_count other = 0

abbrev pub lane_count : Statement → ℕ
lane_count (Salvo salvo) = length salvo.lanes
lane_count other = 0

abbrev pub product_count : Option Placed → ℕ
product_count None = 0
product_count (Some placed) = body_count placed.body

-- the live cells of a line's body
abbrev pub cell_count : Statement → ℕ
cell_count (Hand body) = body_count body
cell_count (Elbow elbow) = body_count elbow.placed.body
cell_count (Salvo salvo) = product_count salvo.product
cell_count other = 0

-- the counts of a line that was read are numbers of 63 bits
pub record HasSmallCounts (s : Statement) : Type 0 where
  pub cells : cell_count s ≤ 2 ^ 61
  pub delays : delay_count s < 2 ^ 63
  pub lanes : lane_count s < 2 ^ 63

-- a setting has a number, and as many as it has limits
abbrev pub HasItsNumbers : Statement → Type 0
HasItsNumbers (Setting setting) = (0 < length setting.numbers) × (length setting.numbers ≡ length (limits setting.word))
HasItsNumbers other = Unit {0}
