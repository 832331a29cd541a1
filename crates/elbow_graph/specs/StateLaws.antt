-- The number of the elbows that are reached is one, and within a limit or not.
use Rattle.std.specs.Prelude.{◌≡◌, ℕ}
use Rattle.breadth_search.specs.StateLaws as breadth
use Rattle.elbow_graph.specs.declared.elbow.Elbow.{Elbow}
use Rattle.elbow_graph.specs.SameElbows.{elbow_eq}
use Rattle.elbow_graph.specs.SameElbowLaws.{same_elbow, elbows_equivalent}
use Rattle.elbow_graph.specs.States.{HasReached, HasReachedMore}

pub one_number : (Next : ℕ → Elbow → Elbow → Type 0) (from : Elbow) (limit other a b : ℕ) → HasReached Next from limit a → HasReached Next from other b → a ≡ b
one_number = breadth.one_number elbow_eq elbows_equivalent same_elbow

pub not_more : (Next : ℕ → Elbow → Elbow → Type 0) (from : Elbow) (limit n : ℕ) → HasReached Next from limit n → HasReachedMore Next from limit → ⊥
not_more = breadth.not_more elbow_eq elbows_equivalent same_elbow
