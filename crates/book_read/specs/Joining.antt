-- How a line goes with what the lines before it have stated.
use Rattle.std.specs.Prelude.{◌≡◌, ℕ, List, [], ◌∷◌, ◌++◌, map, IsSome}
use Rattle.std.specs.List.{AllByRecursion}
use Rattle.std.specs.declared.option.Option.TheVariants.{None}
use Rattle.book_parts.specs.Proper.{IsNoneOf}
use Rattle.book_parts.specs.declared.kind.RawKind.{RawKind}
use Rattle.book_parts.specs.declared.turn.RawTurn.{RawTurn}
use Rattle.book_parts.specs.declared.salvo.RawSalvo.{RawSalvo}
use Rattle.book_lines.specs.declared.statement.NamedEnd.{NamedEnd}
use Rattle.book_lines.specs.declared.statement.NamedEnd.TheVariants.{Close, Move, Emit}
use Rattle.book_lines.specs.declared.statement.Statement.{Statement}
use Rattle.book_lines.specs.declared.statement.Statement.TheVariants.{Setting, Hand, Elbow, Start, Turn, Salvo}
use Rattle.book_lines.specs.Statements.{States}
use Rattle.book_read.specs.Names.{number_of}
use Rattle.book_read.specs.Stated.{Stated}
use Rattle.book_read.specs.Limited.{IsOver}

abbrev pub kind_names : Stated → List (List ℕ)
kind_names stated = map (λ (kind : RawKind). kind.name) stated.kinds

-- the names of turns and salvos
abbrev pub entry_names : Stated → List (List ℕ)
entry_names stated = map (λ (turn : RawTurn). turn.name) stated.turns ++ map (λ (salvo : RawSalvo). salvo.name) stated.salvos

-- the setting, or the entry's name, doesn't come again
abbrev pub IsNew : Stated → Statement → Type 0
IsNew stated (Setting setting) = stated.settings setting.word ≡ None
IsNew stated (Hand body) = stated.hand ≡ None
IsNew stated (Elbow elbow) = IsNoneOf (kind_names stated) elbow.name
IsNew stated (Start name) = stated.start ≡ None
IsNew stated (Turn turn) = IsNoneOf (entry_names stated) turn.name
IsNew stated (Salvo salvo) = IsNoneOf (entry_names stated) salvo.name

abbrev pub kinds_of_end : NamedEnd → List (List ℕ)
kinds_of_end Close = []
kinds_of_end (Move kind shift) = kind ∷ []
kinds_of_end (Emit kind shift lane j) = kind ∷ []

-- the kinds that a line names
abbrev pub kinds_named : Statement → List (List ℕ)
kinds_named (Start name) = name ∷ []
kinds_named (Turn turn) = turn.kind ∷ kinds_of_end turn.end
kinds_named other = []

-- each kind that a line names is defined before it
abbrev pub KnowsKinds : Stated → Statement → Type 0
KnowsKinds stated s = AllByRecursion (λ name. IsSome (number_of stated.kinds name)) (kinds_named s)

-- a line is fine behind what is stated, and states this
pub record IsFine (stated : Stated) (line : List ℕ) (s : Statement) : Type 0 where
  pub states : States line s
  pub new : IsNew stated s
  pub known : KnowsKinds stated s
  pub within : IsOver stated s None
