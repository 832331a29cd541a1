-- A search for the least list that ends, and for a state, goes on as a labelling grows, and answers.
use Rattle.std.proofs.Common.{◌≡◌, ◌⊎◌, ℕ, ◌+◌, ◌^◌, ◌<◌, ◌≤◌, Bool, true, false, List, [], ◌∷◌, ◌++◌, length, get_or, Option, Some, None, inl, inr, sym, ap, subst, ◌∙◌, arith}
use Rattle.std.specs.List.{slice_get, Contains}
use Rattle.std.proofs.lemmas.List.{get_or_append_left, get_or_default, get_or_push, length_push, length-append, append_assoc}
use Rattle.std.proofs.lemmas.Option.{slice_get_within, slice_get-get_or, get_or_from_slice_get}
use Rattle.life_plane.specs.NumberLaws.{lt_or_same}
use Rattle.breadth_search.specs.First.{AreFirst, IsLabelling, IsGrown}
use Rattle.breadth_search.specs.FirstLaws.{least_ending, no_ending}
use Rattle.breadth_search.specs.Labelled.{Labelled}
use Rattle.breadth_search.specs.Seeking.{IsSeeking}
use Rattle.breadth_search.specs.States.{HasReached, HasReachedMore}
use Rattle.breadth_search.specs.Leads.{IsFirstEnd}
use Rattle.breadth_search.specs.Walks.{LeadOn, EndsWith, IsLeastEnding, IsReached}

grown_longer : {S : Type 0} (states states_after : List S) → IsGrown states states_after → length states ≤ length states_after
grown_longer states states_after grown =
    let is : length states_after ≡ length states + length grown.0 = ap length grown.1 ∙ length-append states grown.0 in omega arith

grown_at : {S : Type 0} (states states_after : List S) (m : ℕ) (d : S) → IsGrown states states_after → m < length states → get_or states_after m d ≡ get_or states m d
grown_at states states_after m d grown lt = ap (λ xs. get_or xs m d) grown.1 ∙ get_or_append_left states grown.0 d m lt

pub grown_on : {S : Type 0} (states states_now states_after : List S) → IsGrown states states_now → IsGrown states_now states_after → IsGrown states states_after
grown_on states states_now states_after h k = (h.0 ++ k.0, k.1 ∙ ap (λ xs. xs ++ k.0) h.1 ∙ append_assoc states h.0 k.0)

pub grown_more : {S : Type 0} (states states_now states_after : List S) (next : S) → IsGrown states states_now → states_after ≡ states_now ++ next ∷ [] → IsGrown states states_after
grown_more states states_now states_after next grown is = grown_on states states_now states_after grown (next ∷ [], is)

module _ {G S : Type 0} (Next : G → ℕ → S → S → Type 0) (Last : G → ℕ → S → Type 0) (eq : S → S → Bool) (graph : G) (from : S) where
  pub seek_begins : (seen : Labelled G S) → seen.graph ≡ graph → seen.from ≡ from → IsSeeking Next Last eq graph from seen 0
  seek_begins seen g f = record { graph_is = g; from_is = f; within = omega arith; small = omega arith; labelling = λ lt. absurd (omega arith); none = λ m k lt last. absurd (omega arith) }

  -- more states than the limit are reached
  pub seek_more : (seen : Labelled G S) (place limit : ℕ) → IsSeeking Next Last eq graph from seen place → limit < place → HasReachedMore eq (Next graph) from limit × (limit < 2 ^ 63)
  seek_more seen place limit was more =
      let is = was.labelling (omega arith) in
      let P : G → S → Type 0 = λ g f. HasReachedMore eq (Next g) f limit in (
        subst (λ g. P g from) was.graph_is (subst (λ f. P seen.graph f) was.from_is (record {
          states = seen.states;
          distinct = is.distinct;
          reached = λ at there. reached is.first at there;
          more = (let low = was.within in omega arith);
        })),
        (let high = was.small in omega arith),
      )
    where
      reached : AreFirst (Next seen.graph) seen.from seen.states seen.lists → (at : S) → Contains seen.states at → IsReached (Next seen.graph) seen.from at
      reached first at there = (
        get_or seen.lists there.0 [],
        subst (λ a. LeadOn (Next seen.graph) seen.from (get_or seen.lists there.0 []) a) (get_or_default seen.states there.0 seen.from at there.1 ∙ there.2) (first.least there.0 there.1).leads,
      )

  -- the labelling has come to the place
  module _ (was_seen seen : Labelled G S) (place : ℕ) (was : IsSeeking Next Last eq graph from was_seen place) (same_graph : seen.graph ≡ was_seen.graph) (same_from : seen.from ≡ was_seen.from)
      (grown : IsGrown was_seen.states seen.states) (is : IsLabelling Next eq seen) where
    graph_is : seen.graph ≡ graph
    graph_is = same_graph ∙ was.graph_is

    from_is : seen.from ≡ from
    from_is = same_from ∙ was.from_is

    none : (m k : ℕ) → m < place → Last graph k (get_or seen.states m from) → ⊥
    none m k lt last = was.none m k lt (subst (Last graph k) (grown_at was_seen.states seen.states m from grown (let low = was.within in omega arith)) last)

    first : AreFirst (Next graph) from seen.states seen.lists
    first = let P : G → S → Type 0 = λ g f. AreFirst (Next g) f seen.states seen.lists in subst (λ g. P g from) graph_is (subst (λ f. P seen.graph f) from_is is.first)

    reached_there : (at : S) → Contains seen.states at → IsReached (Next graph) from at
    reached_there at there = (
      get_or seen.lists there.0 [],
      subst (λ a. LeadOn (Next graph) from (get_or seen.lists there.0 []) a) (get_or_default seen.states there.0 from at there.1 ∙ there.2) (first.least there.0 there.1).leads,
    )

    -- no list ends at the state there: the next place comes
    pub seek_on : (here : S) (answer : Option ℕ) → slice_get seen.states place ≡ Some here → place < 2 ^ 63 → answer ≡ None → IsFirstEnd (Last seen.graph) here answer → IsSeeking Next Last eq graph from seen (place + 1)
    seek_on here answer at small none_is ends = record {
      graph_is = graph_is;
      from_is = from_is;
      within = (let lt = slice_get_within seen.states place here at in omega arith);
      small = omega arith;
      labelling = λ _. is;
      none = λ m k lt last. by m k (lt_or_same m place lt) last;
    }
      where
        not_here : (k : ℕ) → Last graph k here → ⊥
        not_here k last =
            let over : IsFirstEnd (Last seen.graph) here None = subst (IsFirstEnd (Last seen.graph) here) none_is ends in
            over k (subst (λ g. Last g k here) (sym graph_is) last)

        by : (m k : ℕ) → (m < place) ⊎ (m ≡ place) → Last graph k (get_or seen.states m from) → ⊥
        by m k (inl lt) last = none m k lt last
        by m k (inr same) last = not_here k (subst (Last graph k) (ap (λ n. get_or seen.states n from) same ∙ get_or_from_slice_get seen.states place here from at) last)

    -- a list ends there
    pub seek_ends : (here : S) (answer : Option ℕ) (last : ℕ) → slice_get seen.states place ≡ Some here → answer ≡ Some last → IsFirstEnd (Last seen.graph) here answer → (list list_after : List ℕ) →
        list ≡ get_or seen.lists place [] → list_after ≡ list ++ last ∷ [] → IsLeastEnding (Next graph) (Last graph) from list_after
    seek_ends here answer last at some ends list list_after list_is after_is =
        let end : IsFirstEnd (Last seen.graph) here (Some last) = subst (IsFirstEnd (Last seen.graph) here) some ends in
        let here_is : get_or seen.states place from ≡ here = get_or_from_slice_get seen.states place here from at in
        subst (IsLeastEnding (Next graph) (Last graph) from) (sym (after_is ∙ ap (λ js. js ++ last ∷ []) list_is))
        (least_ending (Next graph) (Last graph) from seen.states seen.lists first place last (slice_get_within seen.states place here at) none
        (subst (λ g. Last g last (get_or seen.states place from)) graph_is (subst (Last seen.graph last) (sym here_is) end.0))
        (λ k ends. end.1 k (subst (Last seen.graph k) here_is (subst (λ g. Last g k (get_or seen.states place from)) (sym graph_is) ends))))

    -- no state is left
    pub seek_fails : (limit : ℕ) → length seen.states ≡ place → length seen.states ≤ seen.tried → place ≤ limit →
        HasReached eq (Next graph) from limit place × ((list : List ℕ) → EndsWith (Next graph) (Last graph) from list → ⊥)
    seek_fails limit over tried within = (
      record {
        states = seen.states;
        distinct = is.distinct;
        are = λ at. (reached_there at, all at);
        count_is = over;
        within = within;
      },
      no_ending (Next graph) (Last graph) from seen.states seen.lists first all (λ m k lt last. none m k (subst (λ n. m < n) over lt) last),
    )
      where
        all : (to : S) → IsReached (Next graph) from to → Contains seen.states to
        all = let P : G → S → Type 0 = λ g f. (to : S) → IsReached (Next g) f to → Contains seen.states to in subst (λ g. P g from) graph_is (subst (λ f. P seen.graph f) from_is (is.whole tried))

-- ---- a state that is sought

pub not_reached : {G S : Type 0} (Next : G → ℕ → S → S → Type 0) (eq : S → S → Bool) (graph : G) (from to : S) (was_seen seen : Labelled G S) → was_seen.graph ≡ graph → was_seen.from ≡ from → seen.graph ≡ was_seen.graph →
    seen.from ≡ was_seen.from → seen.states ≡ was_seen.states → IsLabelling Next eq seen → length seen.states ≤ seen.tried → (Contains was_seen.states to → ⊥) → IsReached (Next graph) from to → ⊥
not_reached {G} {S} Next eq graph from to was_seen seen g f same_graph same_from same is tried lacks reached =
    let P : G → S → Type 0 = λ g f. IsReached (Next g) f to in
    lacks (subst (λ xs. Contains xs to) same (is.whole tried to (subst (λ h. P h seen.from) (sym (same_graph ∙ g)) (subst (λ a. P graph a) (sym (same_from ∙ f)) reached))))

pub lacks_more : {S : Type 0} (eq : S → S → Bool) → ((a : S) → eq a a ≡ true) → (states states_after : List S) (next to : S) → states_after ≡ states ++ next ∷ [] → eq next to ≡ false → (Contains states to → ⊥) →
    Contains states_after to → ⊥
lacks_more {S} eq itself states states_after next to grown differ lacks there = by (subst (λ xs. Contains xs to) grown there)
  where
    at_end : (m : ℕ) → m ≡ length states → get_or (states ++ next ∷ []) m to ≡ to → ⊥
    at_end m is e =
        let next_is : next ≡ to = sym (get_or_push states next to m (sym is)) ∙ e in
        let alike : eq next to ≡ true = subst (λ a. eq next a ≡ true) next_is (itself next) in absurd (cc)

    by_place : (m : ℕ) → (m < length states) ⊎ (m ≡ length states) → get_or (states ++ next ∷ []) m to ≡ to → ⊥
    by_place m (inl lt) e = lacks (m, lt, sym (get_or_append_left states (next ∷ []) to m lt) ∙ e)
    by_place m (inr is) e = at_end m is e

    by : Contains (states ++ next ∷ []) to → ⊥
    by found = by_place found.0 (lt_or_same found.0 (length states) (let lt = found.1 in omega (arith, length_push states next))) found.2

-- the state that was added stands last
pub at_last : {S : Type 0} (states states_after : List S) (next : S) (place : ℕ) → states_after ≡ states ++ next ∷ [] → place ≡ length states → (place < length states_after) × (slice_get states_after place ≡ Some next)
at_last states states_after next place grown is =
    let many : length states_after ≡ length states + 1 = ap length grown ∙ length_push states next in
    let lt : place < length states_after = omega arith in
    (lt, slice_get-get_or states_after place next lt ∙ ap Some (ap (λ xs. get_or xs place next) grown ∙ get_or_push states next next place (sym is)))
