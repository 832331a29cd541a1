-- What a line states.
use Rattle.std.specs.Prelude.{◌≡◌, ℕ, List, ◌∷◌}
use Rattle.book_lines.specs.declared.keyword.Keyword.{Keyword}
use Rattle.book_lines.specs.declared.keyword.Keyword.TheVariants as first
use Rattle.book_lines.specs.declared.keyword.Keyword.TheVariants.{Book}
use Rattle.book_lines.specs.declared.book_word.BookWord.TheVariants as word
use Rattle.book_lines.specs.declared.statement.Statement.{Statement}
use Rattle.book_lines.specs.declared.statement.Statement.TheVariants.{Setting, Hand, Elbow, Start, Turn, Salvo}
use Rattle.text_lines.specs.Blanks.{words}
use Rattle.book_lines.specs.Values.{Level}
use Rattle.book_lines.specs.Words.{spelling}
use Rattle.book_lines.specs.Forms.{IsSettingLine, IsBody, IsElbowLine, IsOneName, IsTurnLine, IsSalvoLine}

-- the first word of the lines that state this
abbrev pub keyword : Statement → Keyword
keyword (Setting setting) = Book setting.word
keyword (Hand body) = Book word.Hand
keyword (Elbow elbow) = Book word.Elbow
keyword (Start name) = Book word.Start
keyword (Turn turn) = first.Turn
keyword (Salvo salvo) = first.Salvo

-- the items behind the first word state this, as far as they are looked at
abbrev pub ItemsState : Level → Statement → List (List ℕ) → Type 0
ItemsState level (Setting setting) items = IsSettingLine level setting items
ItemsState level (Hand body) items = IsBody level body items
ItemsState level (Elbow elbow) items = IsElbowLine level elbow items
ItemsState level (Start name) items = IsOneName name items
ItemsState level (Turn turn) items = IsTurnLine level turn items
ItemsState level (Salvo salvo) items = IsSalvoLine level salvo items

-- a line states this, as far as it is looked at
pub record StatesAt (level : Level) (line : List ℕ) (s : Statement) : Type 0 where
  pub items : List (List ℕ)
  pub words_are : words line ≡ spelling (keyword s) ∷ items
  pub items_are : ItemsState level s items

-- a line states this
abbrev pub States : List ℕ → Statement → Type 0
States line s = StatesAt Level.Whole line s
