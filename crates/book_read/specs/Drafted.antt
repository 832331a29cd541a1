-- What a draft of a book has.
use Rattle.std.specs.Prelude.{◌≡◌, ◌≢◌, ◌⊎◌, ◌<◌, ◌≤◌, ◌^◌, ◌+ℤ◌, ◌<ℤ◌, ℕ, ℤ, List, [], ◌∷◌, length, if◌then◌else◌}
use Rattle.std.specs.List.{AllZip}
use denote.Enum.Bare.{sameb}
use Rattle.book_lines.specs.declared.fault.LineFault.TheVariants.{Version}
use Rattle.book_read.specs.declared.error.BookError.{BookError}
use Rattle.book_read.specs.declared.error.BookError.TheVariants.{BadLine, Missing, WallReach, Memory}
use Rattle.book_read.specs.Reading.{IsVersion, IsRefused, IsRefusedAmong, HasNoVersion, IsFirstMissing}
use Rattle.book_read.specs.Book.{Said, whole}
use Rattle.std.specs.declared.option.Option.{Option}
use Rattle.std.specs.declared.option.Option.TheVariants.{Some, None}
use Rattle.life_cells.specs.declared.cell.Cell.{Cell}
use Rattle.book_parts.specs.declared.limits.TheConstants.{MOST_KINDS, MOST_TURNS, MOST_SALVOS, MOST_CELLS, WALL_MARGIN}
use Rattle.book_parts.specs.declared.settings.Range.{Range}
use Rattle.book_lines.specs.declared.book_word.TheConstants.{BOOK_WORDS}
use Rattle.book_lines.specs.declared.book_word.BookWord.{BookWord}
use Rattle.book_lines.specs.declared.book_word.BookWord.TheVariants as word
use Rattle.book_lines.specs.contracts.book_word.BookWord.{the_type}
use Rattle.book_lines.specs.declared.statement.SettingLine.{SettingLine}
use Rattle.book_lines.specs.Limits.{IsWithin, limits}
use Rattle.book_read.specs.declared.draft.Draft.{Draft}
use Rattle.text_lines.specs.Blanks.{IsPassedOver}
use Rattle.book_lines.specs.declared.statement.Statement.{Statement}
use Rattle.book_read.specs.Joining.{IsFine}
use Rattle.book_read.specs.Stated.{Stated, coordinates, range_numbers, joined}
use Rattle.book_read.specs.Limited.{stated_cells}

-- the numbers of the first of these settings with a word
abbrev pub numbers_of : List SettingLine → BookWord → Option (List ℤ)
numbers_of [] word = None
numbers_of (setting ∷ settings) word = if sameb the_type setting.word word then Some setting.numbers else numbers_of settings word

-- what the lines so far have stated
abbrev pub stated_of : Draft → Stated
stated_of draft = record {
  settings = numbers_of draft.settings.items;
  hand = draft.hand;
  kinds = draft.kinds.items;
  start = draft.start;
  turns = draft.turns.items;
  salvos = draft.salvos.items;
}

-- numbers that a setting may have
pub record AreNumbersOf (word : BookWord) (numbers : List ℤ) : Type 0 where
  pub some : 0 < length numbers
  pub each : AllZip IsWithin (limits word) numbers

-- its settings are within their limits, its cells are counted, and its counts are within their limits
pub record IsKept (draft : Draft) : Type 0 where
  pub settings : (word : BookWord) (numbers : List ℤ) → numbers_of draft.settings.items word ≡ Some numbers → AreNumbersOf word numbers
  pub few_kinds : length draft.kinds.items ≤ MOST_KINDS
  pub few_turns : length draft.turns.items ≤ MOST_TURNS
  pub few_salvos : length draft.salvos.items ≤ MOST_SALVOS
  pub cells_are : draft.cells ≡ stated_cells (stated_of draft)
  pub few_cells : draft.cells ≤ MOST_CELLS

-- a line is passed over, or it is fine and joined
abbrev pub IsTaken : Stated → List ℕ → Stated → Type 0
IsTaken stated line after =
    (IsPassedOver line × (after ≡ stated)) ⊎ ((IsPassedOver line → ⊥) × ((s : Statement) × (IsFine stated line s × (after ≡ joined stated s))))

-- the line is refused so, or memory was wanting
abbrev pub IsLineRefusal : Stated → List ℕ → ℕ → BookError → Type 0
IsLineRefusal stated line number Memory = Unit {0}
IsLineRefusal stated line number e = IsRefused stated line number e

-- the first of these lines that isn't fine is refused so, or memory was wanting
abbrev pub IsBodyRefusal : ℕ → List (List ℕ) → BookError → Type 0
IsBodyRefusal before ls Memory = Unit {0}
IsBodyRefusal before ls e = IsRefusedAmong before ls e

-- there is no version, or memory was wanting
abbrev pub IsVersionRefusal : List (List ℕ) → BookError → Type 0
IsVersionRefusal ls Memory = Unit {0}
IsVersionRefusal ls (BadLine line why) = (why ≡ Version) × HasNoVersion ls line
IsVersionRefusal ls other = ⊥

-- the line with this number is no version, or memory was wanting
abbrev pub IsOtherLine : List ℕ → ℕ → BookError → Type 0
IsOtherLine line number Memory = Unit {0}
IsOtherLine line number (BadLine at why) = (at ≡ number) × ((why ≡ Version) × (IsVersion line → ⊥))
IsOtherLine line number other = ⊥

-- a setting is stated, and has one number
abbrev pub HasNumber : Draft → BookWord → Type 0
HasNumber draft word = (number : ℤ) × (numbers_of draft.settings.items word ≡ Some (number ∷ []))

-- a setting is stated, and is a place
abbrev pub HasPlace : Draft → BookWord → Type 0
HasPlace draft word = (place : Cell) × (numbers_of draft.settings.items word ≡ Some (coordinates place))

-- a setting is stated, and is a range
abbrev pub HasRange : Draft → BookWord → Type 0
HasRange draft word = (range : Range) × ((range.len < 2 ^ 32) × (numbers_of draft.settings.items word ≡ Some (range_numbers range)))

-- each setting is stated
pub record HasSettings (draft : Draft) : Type 0 where
  pub approach : HasNumber draft word.Approach
  pub wall : HasNumber draft word.Wall
  pub reach : HasNumber draft word.Reach
  pub corner : HasPlace draft word.Corner
  pub room : HasNumber draft word.Room
  pub span : HasNumber draft word.Span
  pub lanes : HasRange draft word.Lanes
  pub delays : HasRange draft word.Delays
  pub hand : numbers_of draft.settings.items word.Hand ≡ None
  pub elbow : numbers_of draft.settings.items word.Elbow ≡ None
  pub start : numbers_of draft.settings.items word.Start ≡ None

-- a word is missing, or the reach is too near the wall
abbrev pub IsUnfinished : Stated → BookError → Type 0
IsUnfinished stated (Missing word) = IsFirstMissing stated BOOK_WORDS word
IsUnfinished stated (WallReach near far) = (said : Said) × ((stated ≡ whole said) × ((said.kinds ≢ []) × ((said.settings.wall ≡ near) × ((said.settings.reach ≡ far) × (far <ℤ (near +ℤ WALL_MARGIN))))))
IsUnfinished stated other = ⊥
