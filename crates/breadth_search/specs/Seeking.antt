-- A search for the least list that ends, over a labelling that grows.
use Rattle.std.specs.Prelude.{◌≡◌, ℕ, ◌^◌, ◌<◌, ◌≤◌, Bool, length, get_or}
use Rattle.breadth_search.specs.First.{IsLabelling}
use Rattle.breadth_search.specs.Labelled.{Labelled}

-- no list ends at the states before a place
pub record IsSeeking {G S : Type 0} (Next : G → ℕ → S → S → Type 0) (Last : G → ℕ → S → Type 0) (eq : S → S → Bool) (graph : G) (from : S) (seen : Labelled G S) (place : ℕ) : Type 0 where
  pub graph_is : seen.graph ≡ graph
  pub from_is : seen.from ≡ from
  pub within : place ≤ length seen.states
  pub small : place ≤ 2 ^ 63
  pub labelling : 0 < place → IsLabelling Next eq seen
  pub none : (m k : ℕ) → m < place → Last graph k (get_or seen.states m from) → ⊥
