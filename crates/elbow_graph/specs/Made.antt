-- What a table keeps for each key and each place.
use Rattle.std.specs.Prelude.{◌≡◌, ℕ, ◌+◌, ◌≤◌, List, length, get_or}
use Rattle.std.specs.declared.option.Option.{Option}
use Rattle.std.specs.declared.option.Option.TheVariants.{None}
use Rattle.elbow_graph.specs.declared.exit.Exit.{Exit}
use Rattle.elbow_graph.specs.declared.table.Table.{Table}
use Rattle.elbow_graph.specs.declared.table.TurnKey.{TurnKey}
use Rattle.elbow_graph.specs.Tables.{IsKeyed, IsLeastFrom}

-- of the turns from a place on: for each key the first with it, and for each turn the next with its key
pub record IsMade (table : Table) (exits : List Exit) (firsts : TurnKey → Option ℕ) (nexts : List (Option ℕ)) (from : ℕ) : Type 0 where
  pub as_many : length nexts ≡ length exits
  pub first : (key : TurnKey) → IsLeastFrom (IsKeyed table exits key) from (firsts key)
  pub next : (place : ℕ) (key : TurnKey) → from ≤ place → IsKeyed table exits key place → IsLeastFrom (IsKeyed table exits key) (place + 1) (get_or nexts place None)
