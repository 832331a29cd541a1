-- Where a search answers that no list serves a goal.
use Rattle.std.proofs.Common.{◌≡◌, ℕ, ℤ, List, subst}
use Rattle.elbow_graph.specs.declared.elbow.Elbow.{Elbow}
use Rattle.elbow_graph.specs.declared.exit.Exit.{Exit}
use Rattle.elbow_graph.specs.declared.goal.Goal.{Goal}
use Rattle.breadth_search.specs.declared.outcome.Outcome.{Outcome}
use Rattle.breadth_search.specs.declared.outcome.Outcome.TheVariants.{Nowhere}
use Rattle.elbow_graph.specs.Answers.{AnswersSo}
use Rattle.elbow_graph.specs.Goals.{IsRoute}

pub no_route : (exits : List Exit) (span used : ℤ) (goal : Goal) (from : Elbow) (limit count : ℕ) (outcome : Outcome) → outcome ≡ Nowhere count → used ≡ span → AnswersSo exits used goal from limit outcome →
    (list : List ℕ) → IsRoute exits span goal from list → ⊥
no_route exits span used goal from limit count outcome is same answer =
    let nowhere : AnswersSo exits used goal from limit (Nowhere count) = subst (AnswersSo exits used goal from limit) is answer in
    subst (λ (z : ℤ). (list : List ℕ) → IsRoute exits z goal from list → ⊥) same nowhere.1
