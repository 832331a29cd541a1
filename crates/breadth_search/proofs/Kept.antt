-- What holds of a labelling by what its type keeps.
use Rattle.std.proofs.Common.{◌≡◌, ℕ, ◌<◌, ◌≤◌, Bool, true, IsTrue, leb, List, [], length, get_or, Option, sym, subst, arith}
use Rattle.std.specs.List.{Contains}
use Rattle.std.proofs.lemmas.Bool.{leb-true}
use Rattle.breadth_search.specs.declared.found.Label.{Label}
use Rattle.breadth_search.specs.First.{IsLabelling}
use Rattle.breadth_search.specs.Labelled.{Labelled}
use Rattle.breadth_search.specs.Labels.{lists_of, AreLabelled}
use Rattle.breadth_search.specs.Search.{IsKept}
use Rattle.breadth_search.specs.Walks.{IsLeastTo, IsReached}
use Rattle.breadth_search.specs.SearchedLaws.{are_first, whole}

abbrev pub labelled : {G S : Type 0} → G → S → List S → List Label → ℕ → Labelled G S
labelled graph from states labels tried = record { graph = graph; from = from; states = states; lists = lists_of labels; tried = tried }

pub is_labelling : {G S : Type 0} (Next : G → ℕ → S → S → Type 0) (eq : S → S → Bool) → ((a : S) → eq a a ≡ true) → (graph : G) (from : S) (place : ℕ) (number : Option ℕ) (states : List S) (labels : List Label) →
    IsKept (Next graph) eq from place number states labels → IsLabelling Next eq (labelled graph from states labels place)
is_labelling Next eq itself graph from place number states labels kept =
    let was = kept.searching.searched in
    record {
      first = are_first (Next graph) from place _ states labels (lists_of labels) was eq itself kept.distinct;
      some = (let many = was.as_many in omega arith);
      distinct = kept.distinct;
      whole = whole (Next graph) from place _ states labels (lists_of labels) was;
    }

module _ {G S : Type 0} (Next : G → ℕ → S → S → Type 0) (eq : S → S → Bool) (itself : (a : S) → eq a a ≡ true) (graph : G) (from : S) (place : ℕ) (number : Option ℕ) (states : List S) (labels : List Label) (kept : IsKept (Next graph) eq from place number states labels) where
  -- of what contracts see
  pub labelling_seen : (seen : Labelled G S) → labelled graph from states labels place ≡ seen → IsLabelling Next eq seen
  labelling_seen seen is = subst (IsLabelling Next eq) is (is_labelling Next eq itself graph from place number states labels kept)

  pub whole_seen : (seen : Labelled G S) → labelled graph from states labels place ≡ seen → (many : ℕ) → many ≡ length states → IsTrue (leb many place) → (to : S) → IsReached (Next seen.graph) seen.from to → Contains seen.states to
  whole_seen seen is many many_is over =
      let P : Labelled G S → Type 0 = λ v. (to : S) → IsReached (Next v.graph) v.from to → Contains v.states to in
      subst P is ((is_labelling Next eq itself graph from place number states labels kept).whole (subst (λ n. n ≤ place) many_is (leb-true many place over)))

  pub least_seen : (seen : Labelled G S) → labelled graph from states labels place ≡ seen → (m : ℕ) → m < length seen.states → (list : List ℕ) →
      ((lists : List (List ℕ)) → AreLabelled labels lists → list ≡ get_or lists m []) → IsLeastTo (Next seen.graph) seen.from (get_or seen.states m seen.from) list
  least_seen seen is m within list by_labels =
      let P : Labelled G S → Type 0 = λ v. m < length v.states → IsLeastTo (Next v.graph) v.from (get_or v.states m v.from) list in
      subst P is (λ lt. subst (IsLeastTo (Next graph) from (get_or states m from)) (sym (by_labels (lists_of labels) kept.searching.searched.labelled))
      ((is_labelling Next eq itself graph from place number states labels kept).first.least m lt)) within
