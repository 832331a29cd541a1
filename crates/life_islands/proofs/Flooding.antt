-- A search by breadth for the cells that are joined with one.
use Rattle.std.proofs.Common.{◌≡◌, ◌⊎◌, ℕ, ◌+◌, ◌<◌, ◌≤◌, List, [], ◌∷◌, length, get_or, Some, sym, ap, subst, ◌∙◌, arith, inl, inr}
use Rattle.std.specs.List.{slice_get}
use Rattle.std.proofs.lemmas.Option.{slice_get_within, slice_get-get_or}
use Rattle.life_plane.specs.NumberLaws.{lt_or_same}
use Rattle.life_plane.specs.ListLaws.{same_item, at_left}
use Rattle.indexmap.specs.IndexSet.{insert_key}
use Rattle.life_cells.specs.declared.cell.Cell.{Cell}
use Rattle.life_cells.specs.Laws.{listed_at_place, place_of_listed}
use Rattle.life_cells.specs.Listed.{listed}
use Rattle.life_cells.specs.Same.{same_fields}
use Rattle.life_islands.specs.Joined.{Lives, Links, LeadsBy, AreJoined}
use Rattle.life_islands.specs.JoinedLaws.{joined_itself, joined_on, joined_link, joined_lives}
use Rattle.life_islands.specs.Search.{Adds, AreAllJoined}
use Rattle.life_islands.proofs.Adding.{listed_left, listed_cases, only_one, listed_one, all_listed}
use Rattle.life_plane.specs.Plane.{Plane}

-- cells that are joined with one, and those that links lead to from each before a place
pub record IsSearched (s : Plane) (start : Cell) (place : ℕ) (found : List Cell) : Type 0 where
  pub first : Lives (listed found) start
  pub joined : (c : Cell) → Lives (listed found) c → AreJoined s start c
  pub tried : (k : ℕ) (here to : Cell) → k < place → slice_get found k ≡ Some here → Links s here to → Lives (listed found) to

-- an insertion into nothing
pub one_inserted : (none after : List Cell) (start : Cell) → none ≡ [] → after ≡ insert_key same_fields none start → after ≡ start ∷ []
one_inserted none after start empty is = is ∙ ap (λ xs. insert_key same_fields xs start) empty

-- it begins with the one
pub search_begins : (s : Plane) (start : Cell) (found : List Cell) → Lives s start → found ≡ start ∷ [] → IsSearched s start 0 found
search_begins s start found lives is = subst (IsSearched s start 0) (sym is) (record {
  first = listed_one start;
  joined = λ c l. subst (AreJoined s start) (only_one start c l) (joined_itself s start lives);
  tried = λ k here to lt at link. absurd (omega arith);
})

-- the links from one more are added
pub search_more : (s : Plane) (start here : Cell) (place : ℕ) (before after : List Cell) → IsSearched s start place before → slice_get before place ≡ Some here → Adds (Links s here) before after →
    IsSearched s start (place + 1) after
search_more s start here place before after was at adds = record {
  first = kept start was.first;
  joined = λ c l. by c (listed_cases before adds.more c (subst (λ xs. Lives (listed xs) c) adds.grown l));
  tried = λ k there to lt there_at link. tried_at k there to (lt_or_same k place lt) there_at link;
}
  where
    kept : (c : Cell) → Lives (listed before) c → Lives (listed after) c
    kept c l = subst (λ xs. Lives (listed xs) c) (sym adds.grown) (listed_left before adds.more c l)

    joined_here : AreJoined s start here
    joined_here = was.joined here (listed_at_place before place here at)

    by : (c : Cell) → Lives (listed before) c ⊎ Lives (listed adds.more) c → AreJoined s start c
    by c (inl l) = was.joined c l
    by c (inr l) = joined_on s start here c joined_here (joined_link s here c (joined_lives s start here joined_here) (all_listed (Links s here) adds.more c adds.own l))

    left : (k : ℕ) → k < length before → slice_get after k ≡ slice_get before k
    left k lt = ap (λ xs. slice_get xs k) adds.grown ∙ at_left before adds.more k lt

    tried_at : (k : ℕ) (there to : Cell) → (k < place) ⊎ (k ≡ place) → slice_get after k ≡ Some there → Links s there to → Lives (listed after) to
    tried_at k there to (inl lt) there_at link = let within = slice_get_within before place here at in kept to (was.tried k there to lt (sym (left k (omega arith)) ∙ there_at) link)
    tried_at k there to (inr e) there_at link =
        let within = slice_get_within before place here at in
        let same : here ≡ there = same_item (ap (slice_get before) e ∙ at) (sym (left k (omega arith)) ∙ there_at) in
        let P : Cell → Type 0 = λ d. Links s d to in
        adds.all to (subst P (sym same) link)

-- the cell at a place that was read in the same list
pub at_place : (read found : List Cell) (place : ℕ) (z : Cell) → read ≡ found → place < length found → slice_get found place ≡ Some (get_or read place z)
at_place read found place z is lt = slice_get-get_or found place z lt ∙ ap (λ xs. Some (get_or xs place z)) (sym is)

-- where the links from each were tried, there are no others
pub search_ends : (s : Plane) (start : Cell) (place : ℕ) (found : List Cell) → IsSearched s start place found → length found ≤ place → AreAllJoined s start found
search_ends s start place found was long = record { own = was.joined; all = λ c joined. along start joined.cells c was.first joined.leads }
  where
    along : (a : Cell) (cells : List Cell) (b : Cell) → Lives (listed found) a → LeadsBy s a cells b → Lives (listed found) b
    along a [] b l leads = let P : Cell → Type 0 = Lives (listed found) in subst P leads l
    along a (d ∷ cells) b l leads =
        let there = place_of_listed found a.x a.y l in
        let within = slice_get_within found there.0 a there.1 in
        along d cells b (was.tried there.0 a d (omega arith) there.1 leads.0) leads.1
