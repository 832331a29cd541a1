-- The laws of one line, as book_lines tells them.
use Rattle.std.specs.Prelude.{◌≡◌, ℕ, List}
use Rattle.book_lines.specs.declared.fault.LineFault.{LineFault}
use Rattle.book_lines.specs.declared.statement.Statement.{Statement}
use Rattle.book_lines.specs.Statements.{States}
use Rattle.book_lines.specs.Faults.{IsLineFault}

pub record LineLaws : Type 0 where
  pub one : (line : List ℕ) (s t : Statement) → States line s → States line t → s ≡ t
  pub one_fault : (line : List ℕ) (v w : LineFault) → IsLineFault line v → IsLineFault line w → v ≡ w
  pub no_fault : (line : List ℕ) (s : Statement) (why : LineFault) → States line s → IsLineFault line why → ⊥
