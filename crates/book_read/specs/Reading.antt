-- How lines are read behind what is stated, and where that stops.
use Rattle.std.specs.Prelude.{◌≡◌, ℕ, ◌+◌, ◌⊎◌, List, [], ◌∷◌, ◌++◌, length, codes}
use Rattle.std.specs.List.{AllByRecursion}
use Rattle.std.specs.declared.option.Option.TheVariants.{Some, None}
use Rattle.book_lines.specs.declared.statement.Statement.{Statement}
use Rattle.text_lines.specs.Blanks.{words, IsPassedOver}
use Rattle.book_lines.specs.Statements.{States}
use Rattle.book_lines.specs.Faults.{IsLineFault}
use Rattle.book_read.specs.declared.error.BookError.{BookError}
use Rattle.book_read.specs.declared.error.BookError.TheVariants.{BadLine, Doubled, UnknownKind, LimitOver}
use Rattle.book_lines.specs.declared.book_word.BookWord.{BookWord}
use Rattle.book_lines.specs.declared.book_word.BookWord.TheVariants as word
use Rattle.book_read.specs.Stated.{Stated, nothing_stated, joined}
use Rattle.book_read.specs.Limited.{IsOver}
use Rattle.book_read.specs.Joining.{IsNew, KnowsKinds, IsFine}

-- these lines are fine, one after the other behind what is stated, and this is stated with them
abbrev pub AreFine : Stated → List (List ℕ) → Stated → Type 0
AreFine stated [] after = after ≡ stated
AreFine stated (line ∷ ls) after =
    (IsPassedOver line × AreFine stated ls after)
    ⊎ ((IsPassedOver line → ⊥) × ((s : Statement) × (IsFine stated line s × AreFine (joined stated s) ls after)))

-- the line with this number is refused so, behind what is stated
abbrev pub IsRefused : Stated → List ℕ → ℕ → BookError → Type 0
IsRefused stated line number (BadLine at why) = (at ≡ number) × IsLineFault line why
IsRefused stated line number (Doubled at) = (at ≡ number) × ((s : Statement) × (States line s × (IsNew stated s → ⊥)))
IsRefused stated line number (UnknownKind at) = (at ≡ number) × ((s : Statement) × (States line s × (IsNew stated s × (KnowsKinds stated s → ⊥))))
IsRefused stated line number (LimitOver at over) =
    (at ≡ number) × ((s : Statement) × (States line s × (IsNew stated s × (KnowsKinds stated s × IsOver stated s (Some over)))))
IsRefused stated line number other = ⊥

-- `scbook 1`
abbrev pub IsVersion : List ℕ → Type 0
IsVersion line = words line ≡ codes "scbook" ∷ (codes "1" ∷ [])

-- the first line that isn't passed over is the version's; these stand behind it, and so many lines up to it
pub record IsBegun (ls : List (List ℕ)) (number : ℕ) (body : List (List ℕ)) : Type 0 where
  pub head : List (List ℕ)
  pub version : List ℕ
  pub lines_are : ls ≡ head ++ (version ∷ body)
  pub head_is : AllByRecursion IsPassedOver head
  pub version_is : IsVersion version
  pub number_is : number ≡ length head + 1

-- the first line that isn't passed over, with this number, is another than the version's
pub record IsOtherVersion (ls : List (List ℕ)) (number : ℕ) : Type 0 where
  pub head : List (List ℕ)
  pub line : List ℕ
  pub more : List (List ℕ)
  pub lines_are : ls ≡ head ++ (line ∷ more)
  pub head_is : AllByRecursion IsPassedOver head
  pub line_is : IsPassedOver line → ⊥
  pub other : IsVersion line → ⊥
  pub number_is : number ≡ length head + 1

-- there is no version: the first line that isn't passed over is another, or there is none
abbrev pub HasNoVersion : List (List ℕ) → ℕ → Type 0
HasNoVersion ls number = IsOtherVersion ls number ⊎ (AllByRecursion IsPassedOver ls × (number ≡ 1))

-- the first line of these that isn't fine is refused so; so many lines stand before them all
pub record IsRefusedAmong (before : ℕ) (ls : List (List ℕ)) (e : BookError) : Type 0 where
  pub front : List (List ℕ)
  pub line : List ℕ
  pub more : List (List ℕ)
  pub lines_are : ls ≡ front ++ (line ∷ more)
  pub stated : Stated
  pub fine : AreFine nothing_stated front stated
  pub line_is : IsPassedOver line → ⊥
  pub refused : IsRefused stated line ((before + length front) + 1) e

-- no line has stated what begins with this word
abbrev pub IsMissing : Stated → BookWord → Type 0
IsMissing stated word.Hand = stated.hand ≡ None
IsMissing stated word.Elbow = stated.kinds ≡ []
IsMissing stated word.Start = stated.start ≡ None
IsMissing stated setting = stated.settings setting ≡ None

-- the first of these words that is missing
abbrev pub IsFirstMissing : Stated → List BookWord → BookWord → Type 0
IsFirstMissing stated [] missing = ⊥
IsFirstMissing stated (w ∷ ws) missing =
    (IsMissing stated w × (missing ≡ w)) ⊎ ((IsMissing stated w → ⊥) × IsFirstMissing stated ws missing)
