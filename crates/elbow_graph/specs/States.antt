-- How many elbows are reached.
use Rattle.std.specs.Prelude.{ℕ, ℤ, pos, List}
use Rattle.book_parts.specs.declared.turn.RawTurn.{RawTurn}
use Rattle.breadth_search.specs.States as breadth
use Rattle.breadth_search.specs.Walks.{IsReached}
use Rattle.elbow_graph.specs.declared.elbow.Elbow.{Elbow}
use Rattle.elbow_graph.specs.declared.goal.Goal.TheVariants.{Anywhere}
use Rattle.elbow_graph.specs.Elbows.{elbow}
use Rattle.elbow_graph.specs.Exits.{exits_of}
use Rattle.elbow_graph.specs.Goals.{Passes}
use Rattle.elbow_graph.specs.SameElbows.{elbow_eq}

-- so many elbows are reached from one, and no more than the limit
abbrev pub HasReached : (ℕ → Elbow → Elbow → Type 0) → Elbow → ℕ → ℕ → Type 0
HasReached Next from limit count = breadth.HasReached elbow_eq Next from limit count

-- more elbows than the limit are reached from one
abbrev pub HasReachedMore : (ℕ → Elbow → Elbow → Type 0) → Elbow → ℕ → Type 0
HasReachedMore Next from limit = breadth.HasReachedMore elbow_eq Next from limit

-- moves and throws of the turns lead from an elbow to another
abbrev pub IsComeTo : List RawTurn → ℤ → Elbow → Elbow → Type 0
IsComeTo turns span from to = IsReached (Passes (exits_of turns) span Anywhere) from to

-- so many elbows are come to from the start kind at shift 0, and no more than the limit
abbrev pub HasStates : List RawTurn → ℕ → ℤ → ℕ → ℕ → Type 0
HasStates turns start span limit count = HasReached (Passes (exits_of turns) span Anywhere) (elbow start (pos 0)) limit count

-- more elbows than the limit are
abbrev pub HasMoreStates : List RawTurn → ℕ → ℤ → ℕ → Type 0
HasMoreStates turns start span limit = HasReachedMore (Passes (exits_of turns) span Anywhere) (elbow start (pos 0)) limit
