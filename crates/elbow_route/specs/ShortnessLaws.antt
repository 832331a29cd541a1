-- The least list that serves a goal is no longer than there are elbows on the way.
use Rattle.std.specs.Prelude.{ℕ, ◌≤◌, ℤ, List, length}
use Rattle.book_parts.specs.declared.turn.RawTurn.{RawTurn}
use Rattle.book_parts.specs.declared.turn.TurnEnd.{TurnEnd}
use Rattle.book_parts.specs.declared.turn.TurnEnd.TheVariants.{Close, Move, Emit}
use Rattle.breadth_search.specs.ShortnessLaws.{least_is_short}
use Rattle.elbow_graph.specs.declared.elbow.Elbow.{Elbow}
use Rattle.elbow_graph.specs.declared.exit.Exit.{Exit}
use Rattle.elbow_graph.specs.declared.goal.Goal.{Goal}
use Rattle.elbow_graph.specs.declared.goal.Goal.TheVariants.{Anywhere}
use Rattle.elbow_graph.specs.Exits.{exits_of}
use Rattle.elbow_graph.specs.Goals.{MayPass, Passes, Ends, IsLeastRoute}
use Rattle.elbow_graph.specs.SameElbows.{elbow_eq}
use Rattle.elbow_graph.specs.SameElbowLaws.{same_elbow, elbows_equivalent}
use Rattle.elbow_graph.specs.States.{HasReached, IsComeTo}

-- what may stand before the last of a list may pass where each elbow is wanted
may_pass_anywhere : (goal : Goal) (end : TurnEnd) → MayPass goal end → MayPass Anywhere end
may_pass_anywhere goal Close may = may
may_pass_anywhere goal (Move kind advance) may = tt
may_pass_anywhere goal (Emit kind advance lane j) may = tt

pub passes_anywhere : (exits : List Exit) (span : ℤ) (goal : Goal) (k : ℕ) (a b : Elbow) → Passes exits span goal k a b → Passes exits span Anywhere k a b
passes_anywhere exits span goal k a b h = record { exit = h.exit; numbered = h.numbered; may = may_pass_anywhere goal h.exit.end h.may; leads = h.leads }

-- the least list that serves a goal from an elbow has no more turns than the elbows that are come to from one that leads there
pub least_route_is_short : (turns : List RawTurn) (span : ℤ) (goal : Goal) (first from : Elbow) (limit count : ℕ) (list : List ℕ) → HasReached (Passes (exits_of turns) span Anywhere) first limit count →
    IsComeTo turns span first from → IsLeastRoute (exits_of turns) span goal from list → length list ≤ count
least_route_is_short turns span goal first from limit count list =
    least_is_short elbow_eq elbows_equivalent same_elbow (Passes (exits_of turns) span goal) (Ends (exits_of turns) span goal) (Passes (exits_of turns) span Anywhere) (passes_anywhere (exits_of turns) span goal) first from limit count list
