-- What a contract sees of a labelling.
use Rattle.std.specs.Prelude.{ℕ, List, refl}
use Rattle.std.specs.Coded.{Coded, code_by, coded×, coded_ℕ, coded_list}

-- the graph, the state at which the lists begin, the states that have a label in the order in which they were found, the lists that
-- the labels give for them, and at how many of them each number was tried
pub record Labelled (G S : Type 0) : Type 0 where
  pub graph : G
  pub from : S
  pub states : List S
  pub lists : List (List ℕ)
  pub tried : ℕ

abbrev pub labelled_code : {G S : Type 0} → Coded G → Coded S → Coded (Labelled G S)
labelled_code {G} {S} graph state =
    code_by (G × (S × (List S × (List (List ℕ) × ℕ)))) (coded× graph (coded× state (coded× (coded_list state) (coded× (coded_list (coded_list coded_ℕ)) coded_ℕ))))
    (λ a. (a.graph, (a.from, (a.states, (a.lists, a.tried)))))
    (λ p. record { graph = p.0; from = p.1.0; states = p.1.1.0; lists = p.1.1.1.0; tried = p.1.1.1.1 }) (λ _. refl)
