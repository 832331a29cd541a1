-- What is wrong in the form of a line: the first that is, as it is looked at farther and farther.
use Rattle.std.specs.Prelude.{◌≡◌, ℕ, List, ◌∷◌}
use Rattle.book_lines.specs.declared.fault.LineFault.{LineFault}
use Rattle.book_lines.specs.declared.fault.LineFault.TheVariants as fault
use Rattle.book_lines.specs.declared.keyword.Keyword.{Keyword}
use Rattle.book_lines.specs.declared.statement.Statement.{Statement}
use Rattle.text_lines.specs.Blanks.{words}
use Rattle.book_lines.specs.Values.{Level}
use Rattle.book_lines.specs.Values.Level.{Form, Numbers, Bodies, Whole}
use Rattle.book_lines.specs.Words.{spelling}
use Rattle.book_lines.specs.Statements.{StatesAt}

-- something is stated as far as the one level looks, and nothing as far as the next
pub record StopsBetween {V : Type 0} (States : Level → V → Type 0) (level next : Level) : Type 0 where
  pub value : V
  pub so_far : States level value
  pub no_farther : (v : V) → States next v → ⊥

-- this is wrong where a value should be stated
abbrev pub IsFaultOf : {V : Type 0} → (Level → V → Type 0) → LineFault → Type 0
IsFaultOf States fault.Version = ⊥
IsFaultOf States fault.Word = ⊥
IsFaultOf States fault.Form = (v : _) → States Form v → ⊥
IsFaultOf States fault.Number = StopsBetween States Form Numbers
IsFaultOf States fault.Body = StopsBetween States Numbers Bodies
IsFaultOf States fault.Empty = StopsBetween States Bodies Whole

-- the first word of a line is known
abbrev pub HasKeyword : List ℕ → Type 0
HasKeyword line = (k : Keyword) × ((items : List (List ℕ)) × (words line ≡ spelling k ∷ items))

-- this is wrong in the form of a line behind the first
abbrev pub IsLineFault : List ℕ → LineFault → Type 0
IsLineFault line fault.Word = HasKeyword line → ⊥
IsLineFault line other = HasKeyword line × IsFaultOf (λ level (s : Statement). StatesAt level line s) other
