-- What a search answers.
use Rattle.std.specs.Prelude.{ℕ, ℤ, List}
use Rattle.breadth_search.specs.Answers as breadth
use Rattle.breadth_search.specs.declared.outcome.Outcome.{Outcome}
use Rattle.elbow_graph.specs.declared.elbow.Elbow.{Elbow}
use Rattle.elbow_graph.specs.declared.exit.Exit.{Exit}
use Rattle.elbow_graph.specs.declared.goal.Goal.{Goal}
use Rattle.elbow_graph.specs.Goals.{Passes, Ends}
use Rattle.elbow_graph.specs.SameElbows.{elbow_eq}

-- the least route; or no route, with how many elbows are reached; or more elbows than the limit are reached
abbrev pub AnswersSo : List Exit → ℤ → Goal → Elbow → ℕ → Outcome → Type 0
AnswersSo exits span goal from limit outcome = breadth.AnswersSo elbow_eq (Passes exits span goal) (Ends exits span goal) from limit outcome
