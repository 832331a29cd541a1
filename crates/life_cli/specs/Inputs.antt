-- The texts of a command: fetched by their names, and read. Where the depot tells no texts, the text of a name is some text.
use Rattle.std.specs.Prelude.{◌≡◌, ◌≢◌, ◌⊎◌, ℕ, ◌<◌, ◌≤◌, ◌^◌, List, length, IfSome, Some}
use Rattle.std.specs.declared.option.Option.{Option}
use Rattle.life_plane.specs.Plane.{Plane}
use Rattle.life_io.specs.Texts.{HeldText, text_of}
use Rattle.life_rle.specs.Text.{Means}
use Rattle.life_rle.specs.TextFaults.{IsFineText, TextStopsWith}
use Rattle.life_rle.specs.declared.error.RleError as rle
use Rattle.book_text.specs.Book.{Said, StopsWith}
use Rattle.book_read.specs.declared.error.BookError as book
use Rattle.life_cli.specs.Book.{ReadsAsBook}
use Rattle.life_cli.specs.Stages.{Stages}
use Rattle.life_cli.specs.Stages.Stages.{Stage}
use Rattle.life_cli.specs.declared.status.Which.{Which}
use Rattle.life_cli.specs.declared.status.Which.TheVariants.{Book}
use Rattle.life_cli.specs.declared.status.Status.{Status}
use Rattle.life_cli.specs.declared.status.Status.TheVariants.{TooLong, BadRle, BadBookText}

-- the texts that a depot tells, if it tells them
abbrev pub Told : Type 0
Told = Option (List HeldText)

-- ---- a text of any kind

-- the text of this name, with at most 2^24 bytes
pub record IsHeld (told : Told) (name text : List ℕ) : Type 0 where
  pub held : IfSome told (λ texts. text_of texts name ≡ Some text)
  pub short : length text ≤ 2 ^ 24

-- the text of this name has more than 2^24 bytes
pub record IsLong (texts : List HeldText) (name : List ℕ) : Type 0 where
  pub text : List ℕ
  pub held : text_of texts name ≡ Some text
  pub long : 2 ^ 24 < length text

-- the text of this name reads as this value
pub record Holds (Value : Type 0) (Reads : List ℕ → Value → Type 0) (told : Told) (name : List ℕ) (value : Value) : Type 0 where
  pub text : List ℕ
  pub held : IsHeld told name text
  pub reads : Reads text value

-- the fetch of a text refuses so
abbrev pub FetchRefuses : Told → List ℕ → Which → Status → Type 0
FetchRefuses told name which (TooLong other) = (other ≡ which) × IfSome told (λ texts. IsLong texts name)
FetchRefuses told name which other = ⊥

-- the text of this name isn't read, and why: its fetch refuses, or the reading of it stops
abbrev pub IsUnread : (List ℕ → Status → Type 0) → Told → List ℕ → Which → Status → Type 0
IsUnread Stops told name which status = FetchRefuses told name which status ⊎ ((text : List ℕ) × (IsHeld told name text × Stops text status))

-- the stage that fetches and reads a text
abbrev pub input : (Value : Type 0) → (List ℕ → Value → Type 0) → (List ℕ → Status → Type 0) → Told → List ℕ → Which → (Value → Stages) → Stages
input Value Reads Stops told name which next = Stage Value (Holds Value Reads told name) (IsUnread Stops told name which) 0 next

-- ---- books

-- the reading of a book's text stops so
abbrev pub BookTextStops : List ℕ → Status → Type 0
BookTextStops text (BadBookText e) = (e ≢ book.TheVariants.Memory) × StopsWith text e
BookTextStops text other = ⊥

abbrev pub HoldsBook : Told → List ℕ → Said → Type 0
HoldsBook told name said = Holds Said ReadsAsBook told name said

abbrev pub book_input : Told → List ℕ → (Said → Stages) → Stages
book_input told name next = input Said ReadsAsBook BookTextStops told name Book next

-- ---- patterns

-- a text reads as a pattern: within the limits it means these cells
pub record ReadsAsPattern (text : List ℕ) (s : Plane) : Type 0 where
  pub means : Means text s
  pub fine : IsFineText text

-- the reading of the text of a pattern stops so
abbrev pub PatternTextStops : Which → List ℕ → Status → Type 0
PatternTextStops which text (BadRle other e) = (other ≡ which) × ((e ≢ rle.TheVariants.Memory) × TextStopsWith text e)
PatternTextStops which text other = ⊥

abbrev pub HoldsPattern : Told → List ℕ → Plane → Type 0
HoldsPattern told name s = Holds Plane ReadsAsPattern told name s

abbrev pub pattern_input : Told → List ℕ → Which → (Plane → Stages) → Stages
pattern_input told name which next = input Plane ReadsAsPattern (PatternTextStops which) told name which next
