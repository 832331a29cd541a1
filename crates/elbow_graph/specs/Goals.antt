-- What lists of turns are walked for, and the lists that serve it.
use Rattle.std.specs.Prelude.{◌≡◌, ℕ, ℤ, pos, ◌+ℤ◌, ◌*ℤ◌, List}
use Rattle.book_parts.specs.declared.turn.TurnEnd.{TurnEnd}
use Rattle.book_parts.specs.declared.turn.TurnEnd.TheVariants.{Close, Move, Emit}
use Rattle.elbow_graph.specs.declared.elbow.Elbow.{Elbow}
use Rattle.elbow_graph.specs.declared.exit.Exit.{Exit}
use Rattle.elbow_graph.specs.declared.goal.Goal.{Goal}
use Rattle.elbow_graph.specs.declared.goal.Goal.TheVariants as goals
use Rattle.elbow_graph.specs.Elbows.{elbow, IsInSpan, Leads}
use Rattle.elbow_graph.specs.Numbered.{IsNumbered}
use Rattle.breadth_search.specs.Walks.{EndsWith, IsLeastEnding}

-- a turn of this end may stand before the last of a list: a move may, and where no end is wanted a throw may too
abbrev pub MayPass : Goal → TurnEnd → Type 0
MayPass goal Close = ⊥
MayPass goal (Move kind advance) = Unit {0}
MayPass goals.Anywhere (Emit kind advance lane j) = Unit {0}
MayPass goals.Closed (Emit kind advance lane j) = ⊥
MayPass (goals.Lane wanted) (Emit kind advance lane j) = ⊥

-- a turn of this end at a shift is what a list is to end with: it closes the elbow, or throws on the lane and leaves the elbow within the
-- span; the lane is counted at the shift before the turn
abbrev pub IsEnd : Goal → ℤ → TurnEnd → ℤ → Type 0
IsEnd goals.Anywhere span end shift = ⊥
IsEnd goals.Closed span Close shift = Unit {0}
IsEnd goals.Closed span (Move kind advance) shift = ⊥
IsEnd goals.Closed span (Emit kind advance lane j) shift = ⊥
IsEnd (goals.Lane wanted) span Close shift = ⊥
IsEnd (goals.Lane wanted) span (Move kind advance) shift = ⊥
IsEnd (goals.Lane wanted) span (Emit kind advance lane j) shift = (lane +ℤ pos 2 *ℤ shift ≡ wanted) × IsInSpan span (elbow kind (shift +ℤ advance))

-- the turn with this number, counted from 1, leads from an elbow of its kind to another, and may stand before the last of a list
pub record Passes (exits : List Exit) (span : ℤ) (goal : Goal) (number : ℕ) (from to : Elbow) : Type 0 where
  pub exit : Exit
  pub numbered : IsNumbered exits number exit
  pub may : MayPass goal exit.end
  pub leads : Leads span exit from to

-- the turn with this number begins at an elbow of its kind, and is what a list is to end with there
pub record Ends (exits : List Exit) (span : ℤ) (goal : Goal) (number : ℕ) (from : Elbow) : Type 0 where
  pub exit : Exit
  pub numbered : IsNumbered exits number exit
  pub kind : exit.kind ≡ from.kind
  pub end : IsEnd goal span exit.end from.shift

-- a list of turns that serves a goal from an elbow
abbrev pub IsRoute : List Exit → ℤ → Goal → Elbow → List ℕ → Type 0
IsRoute exits span goal from list = EndsWith (Passes exits span goal) (Ends exits span goal) from list

-- the least of them
abbrev pub IsLeastRoute : List Exit → ℤ → Goal → Elbow → List ℕ → Type 0
IsLeastRoute exits span goal from list = IsLeastEnding (Passes exits span goal) (Ends exits span goal) from list
