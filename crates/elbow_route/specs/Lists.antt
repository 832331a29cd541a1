-- Lists of turns by their numbers that close an elbow or serve a lane; the least of them.
use Rattle.std.specs.Prelude.{ℕ, ℤ, List}
use Rattle.book_parts.specs.declared.turn.RawTurn.{RawTurn}
use Rattle.elbow_graph.specs.declared.elbow.Elbow.{Elbow}
use Rattle.elbow_graph.specs.declared.goal.Goal.TheVariants.{Anywhere, Closed, Lane}
use Rattle.elbow_graph.specs.Exits.{exits_of}
use Rattle.elbow_graph.specs.Elbows.{IsInSpan}
use Rattle.elbow_graph.specs.Goals.{Passes, IsRoute, IsLeastRoute}
use Rattle.breadth_search.specs.Walks.{LeadOn}

-- a list of numbers closes the elbow: moves one after the other, each at the elbow that the one before leaves, and a closing turn last
abbrev pub ClosesBy : List RawTurn → ℤ → Elbow → List ℕ → Type 0
ClosesBy turns span from list = IsRoute (exits_of turns) span Closed from list

-- the least list that closes the elbow
abbrev pub IsLeastClosing : List RawTurn → ℤ → Elbow → List ℕ → Type 0
IsLeastClosing turns span from list = IsLeastRoute (exits_of turns) span Closed from list

-- a list of numbers serves a lane: moves one after the other, and a turn last that throws on it
abbrev pub ServesBy : List RawTurn → ℤ → ℤ → Elbow → List ℕ → Type 0
ServesBy turns span lane from list = IsRoute (exits_of turns) span (Lane lane) from list

-- the least list that serves the lane
abbrev pub IsLeastServing : List RawTurn → ℤ → ℤ → Elbow → List ℕ → Type 0
IsLeastServing turns span lane from list = IsLeastRoute (exits_of turns) span (Lane lane) from list

-- the elbow that a list of moves and throws leaves, which is within the span
pub record LeavesInSpan (turns : List RawTurn) (span : ℤ) (from : Elbow) (list : List ℕ) : Type 0 where
  pub after : Elbow
  pub leads : LeadOn (Passes (exits_of turns) span Anywhere) from list after
  pub near : IsInSpan span after
