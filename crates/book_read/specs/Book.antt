-- What a book's text says, or why it says no book.
use Rattle.std.specs.Prelude.{◌≡◌, ◌≢◌, ℕ, ◌+ℤ◌, ◌<ℤ◌, List, []}
use Rattle.std.specs.Str.Lines.{lines}
use Rattle.std.specs.declared.option.Option.TheVariants.{Some}
use Rattle.book_parts.specs.declared.limits.TheConstants.{WALL_MARGIN}
pub use Rattle.book_parts.specs.Said.{Said}
use Rattle.book_lines.specs.declared.book_word.TheConstants.{BOOK_WORDS}
use Rattle.book_lines.specs.declared.fault.LineFault.TheVariants as fault
use Rattle.book_read.specs.declared.error.BookError.{BookError}
use Rattle.book_read.specs.declared.error.BookError.TheVariants.{BadLine, Missing, WallReach, Memory}
use Rattle.book_read.specs.Stated.{Stated, nothing_stated, setting_numbers}
use Rattle.book_read.specs.Reading.{AreFine, IsBegun, HasNoVersion, IsRefusedAmong, IsFirstMissing}

-- all that a book says is stated
abbrev pub whole : Said → Stated
whole said = record {
  settings = setting_numbers said.settings;
  hand = Some said.hand;
  kinds = said.kinds;
  start = Some said.start;
  turns = said.turns;
  salvos = said.salvos;
}

-- these lines are fine, from the version on, and this is stated with them
pub record AreRead (ls : List (List ℕ)) (stated : Stated) : Type 0 where
  pub number : ℕ
  pub body : List (List ℕ)
  pub begun : IsBegun ls number body
  pub fine : AreFine nothing_stated body stated

-- these lines say this book: all of it is stated, and nothing else, and there is a kind
pub record SayBook (ls : List (List ℕ)) (said : Said) : Type 0 where
  pub read : AreRead ls (whole said)
  pub some_kind : said.kinds ≢ []

-- a text says this book
abbrev pub Says : List ℕ → Said → Type 0
Says text said = SayBook (lines text) said

-- the first line that isn't fine is refused so
pub record StopsInLine (ls : List (List ℕ)) (e : BookError) : Type 0 where
  pub number : ℕ
  pub body : List (List ℕ)
  pub begun : IsBegun ls number body
  pub refused : IsRefusedAmong number body e

-- the reading of a book's text stops with this refusal: the first faulty line decides; where there is none, what is missing
abbrev pub StopsWith : List ℕ → BookError → Type 0
StopsWith text (BadLine line fault.Version) = HasNoVersion (lines text) line
StopsWith text (Missing missing) = (stated : Stated) × (AreRead (lines text) stated × IsFirstMissing stated BOOK_WORDS missing)
StopsWith text (WallReach wall reach) = (said : Said) × (Says text said × ((said.settings.wall ≡ wall) × ((said.settings.reach ≡ reach) × (reach <ℤ (wall +ℤ WALL_MARGIN)))))
StopsWith text Memory = Unit {0}
StopsWith text other = StopsInLine (lines text) other
