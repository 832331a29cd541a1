-- What is known of a search by breadth goes on as numbers are tried, place by place.
use Rattle.std.proofs.Common.{◌≡◌, ◌⊎◌, ℕ, suc, ◌+◌, ◌<◌, ◌≤◌, List, [], ◌∷◌, ◌++◌, length, get_or, inl, inr, refl, sym, ap, subst, ◌∙◌, arith}
use Rattle.std.specs.List.{Contains}
use Rattle.std.proofs.lemmas.List.{get_or_append_left, get_or_push, length_push, get_or_default}
use Rattle.std.proofs.lemmas.List.Sums.{fold_push}
use Rattle.std.proofs.lemmas.Bool.{cases_lt}
use Rattle.life_plane.specs.NumberLaws.{lt_or_same}
use Rattle.breadth_search.specs.declared.found.Label.{Label}
use Rattle.breadth_search.specs.ListOrder.{IsAtMost, IsBefore}
use Rattle.breadth_search.specs.Walks.{LeadOn}
use Rattle.breadth_search.specs.Labels.{label, label_at, list_by, with_list, lists_of, AreLabelled, ArePrior}
use Rattle.breadth_search.specs.Search.{IsTried, IsFoundBy, IsSearched}
use Rattle.breadth_search.specs.OrderLaws.{at_most_itself, at_most_from_before, before_on, before_with, before_last, before_up}

leads_more : {S : Type 0} (Next : ℕ → S → S → Type 0) (a : S) (ks : List ℕ) (b : S) (k : ℕ) (c : S) → LeadOn Next a ks b → Next k b c → LeadOn Next a (ks ++ k ∷ []) c
leads_more {S} Next a [] b k c leads next = let P : S → Type 0 = λ x. Next k x c in (c, (subst P leads next, refl))
leads_more {S} Next a (j ∷ ks) b k c leads next = (leads.0, (leads.1.0, leads_more Next leads.0 ks b k c leads.1.1 next))

-- what is tried with a greater bound
tried_cases : (place bound more m k : ℕ) → IsTried place more m k → IsTried place bound m k ⊎ ((m ≡ place) × ((bound ≤ k) × (k < more)))
tried_cases place bound more m k (inl lt) = inl (inl lt)
tried_cases place bound more m k (inr h) = by (cases_lt k bound)
  where
    by : (k < bound) ⊎ (bound ≤ k) → IsTried place bound m k ⊎ ((m ≡ place) × ((bound ≤ k) × (k < more)))
    by (inl lt) = inl (inr (h.0, lt))
    by (inr le) = inr (h.0, (le, h.1))

both : {A B : Type 0} (P : A → B → Type 0) {a c : A} {b d : B} → a ≡ c → b ≡ d → P a b → P c d
both P {a} {c} {b} {d} e f p = subst (λ x. P x d) e (subst (λ y. P a y) f p)

labelled_on : (lists : List (List ℕ)) (labels : List Label) (place number : ℕ) → AreLabelled labels lists → ArePrior labels → place ≤ length labels →
    AreLabelled (labels ++ label place number ∷ []) (lists ++ (get_or lists place [] ++ number ∷ []) ∷ [])
labelled_on lists labels place number was prior within =
    let path = get_or lists place [] ++ number ∷ [] in
    record {
      as_many = omega (arith, length_push lists path, length_push labels (label place number), was.as_many);
      first = get_or_append_left lists (path ∷ []) [] 0 (omega (arith, was.as_many)) ∙ was.first;
      next = λ k lt. next_at k (lt_or_same k (length labels) (omega (arith, length_push labels (label place number))));
    }
  where
    next_at : (k : ℕ) → (k < length labels) ⊎ (k ≡ length labels) → get_or (lists ++ (get_or lists place [] ++ number ∷ []) ∷ []) (k + 1) []
        ≡ list_by (lists ++ (get_or lists place [] ++ number ∷ []) ∷ []) (label_at (labels ++ label place number ∷ []) k)
    next_at k (inl lt) =
        let mark : label_at (labels ++ label place number ∷ []) k ≡ label_at labels k = get_or_append_left labels (label place number ∷ []) (label 0 0) k lt in
        let back : (label_at labels k).before ≤ k = prior k lt in
        let list : get_or (lists ++ (get_or lists place [] ++ number ∷ []) ∷ []) (label_at labels k).before [] ≡ get_or lists (label_at labels k).before [] =
        get_or_append_left lists ((get_or lists place [] ++ number ∷ []) ∷ []) [] (label_at labels k).before (omega (arith, was.as_many)) in
        get_or_append_left lists ((get_or lists place [] ++ number ∷ []) ∷ []) [] (k + 1) (omega (arith, was.as_many)) ∙ was.next k lt ∙ sym (ap (λ js. js ++ (label_at labels k).number ∷ []) list)
        ∙ ap (list_by (lists ++ (get_or lists place [] ++ number ∷ []) ∷ [])) (sym mark)
    next_at k (inr is) =
        let mark : label_at (labels ++ label place number ∷ []) k ≡ label place number = get_or_push labels (label place number) (label 0 0) k (sym is) in
        let list : get_or (lists ++ (get_or lists place [] ++ number ∷ []) ∷ []) place [] ≡ get_or lists place [] =
        get_or_append_left lists ((get_or lists place [] ++ number ∷ []) ∷ []) [] place (omega (arith, was.as_many)) in
        get_or_push lists (get_or lists place [] ++ number ∷ []) [] (k + 1) (omega (arith, was.as_many)) ∙ sym (ap (λ js. js ++ number ∷ []) list)
        ∙ ap (list_by (lists ++ (get_or lists place [] ++ number ∷ []) ∷ [])) (sym mark)

prior_on : (labels : List Label) (place number : ℕ) → ArePrior labels → place ≤ length labels → ArePrior (labels ++ label place number ∷ [])
prior_on labels place number was within k lt = at (lt_or_same k (length labels) (omega (arith, length_push labels (label place number))))
  where
    at : (k < length labels) ⊎ (k ≡ length labels) → (label_at (labels ++ label place number ∷ []) k).before ≤ k
    at (inl lt) = let P : Label → Type 0 = λ m. m.before ≤ k in subst P (sym (get_or_append_left labels (label place number ∷ []) (label 0 0) k lt)) (was k lt)
    at (inr is) = let P : Label → Type 0 = λ m. m.before ≤ k in subst P (sym (get_or_push labels (label place number) (label 0 0) k (sym is))) (omega arith)

-- the lists by one more label
pub lists_more : (labels : List Label) (mark : Label) → with_list (lists_of labels) mark ≡ lists_of (labels ++ mark ∷ [])
lists_more labels mark = sym (fold_push with_list ([] ∷ []) labels mark)

module _ {S : Type 0} (Next : ℕ → S → S → Type 0) (from : S) where
  -- it begins with the one, before any number
  pub breadth_begins : IsSearched Next from 0 0 (from ∷ []) [] ([] ∷ [])
  breadth_begins = record {
    labelled = record { as_many = omega arith; first = refl; next = λ k lt. absurd (omega arith) };
    prior = λ k lt. absurd (omega arith);
    as_many = omega arith;
    first = refl;
    leads = λ m lt. leads_first m (zero_from m lt);
    rising = λ a b ab lt. absurd (omega arith);
    below = λ some m lt. below_first m (zero_from m lt);
    closed = λ m k to lt tried next. absurd (none_tried m k tried);
    within = omega arith;
  }
    where
      zero_from : (m : ℕ) → m < 1 → m ≡ 0
      zero_from m lt = omega arith

      leads_first : (m : ℕ) → m ≡ 0 → LeadOn Next from (get_or ([] ∷ []) m []) (get_or (from ∷ []) m from)
      leads_first m is = subst (λ n. LeadOn Next from (get_or ([] ∷ []) n []) (get_or (from ∷ []) n from)) (sym is) refl

      below_first : (m : ℕ) → m ≡ 0 → IsBefore (get_or ([] ∷ []) m []) ([] ++ 0 ∷ [])
      below_first m is = subst (λ n. IsBefore (get_or ([] ∷ []) n []) ([] ++ 0 ∷ [])) (sym is) (inl (omega arith))

      none_tried : (m k : ℕ) → IsTried 0 0 m k → ⊥
      none_tried m k (inl lt) = omega arith
      none_tried m k (inr h) = let lt = h.1 in omega arith

  -- numbers that lead only to states that are found
  pub breadth_stays : (place bound more : ℕ) (states : List S) (labels : List Label) (lists : List (List ℕ)) → IsSearched Next from place bound states labels lists → place < length states → bound ≤ more →
      ((k : ℕ) (to : S) → bound ≤ k → k < more → Next k (get_or states place from) to → Contains states to) → IsSearched Next from place more states labels lists
  breadth_stays place bound more states labels lists was small up each = record {
    labelled = was.labelled;
    prior = was.prior;
    as_many = was.as_many;
    first = was.first;
    leads = was.leads;
    rising = was.rising;
    below = λ _ m lt. before_up _ _ _ _ (was.below small m lt) up;
    closed = λ m k to lt tried next. closed_at m k to lt (tried_cases place bound more m k tried) next;
    within = was.within;
  }
    where
      closed_at : (m k : ℕ) (to : S) → m < length states → IsTried place bound m k ⊎ ((m ≡ place) × ((bound ≤ k) × (k < more))) → Next k (get_or states m from) to →
          IsFoundBy states lists from to (get_or lists m [] ++ k ∷ [])
      closed_at m k to lt (inl tried) next = was.closed m k to lt tried next
      closed_at m k to lt (inr new) next =
          let there = each k to new.1.0 new.1.1 (subst (λ n. Next k (get_or states n from) to) new.0 next) in
          subst (λ n. IsFoundBy states lists from to (get_or lists n [] ++ k ∷ [])) (sym new.0)
          (record {
            place = there.0;
            within = there.1;
            is = get_or_default states there.0 from to there.1 ∙ there.2;
            least = at_most_from_before _ _ (before_up _ _ _ _ (was.below small there.0 there.1) new.1.0);
          })

  -- a number that leads to a state that is not among them, which goes behind them
  pub breadth_grows : (place bound number : ℕ) (states : List S) (labels : List Label) (lists : List (List ℕ)) (next : S) → IsSearched Next from place bound states labels lists → place < length states → bound ≤ number →
      Next number (get_or states place from) next → ((to : S) → Next number (get_or states place from) to → to ≡ next) →
      ((k : ℕ) (to : S) → bound ≤ k → k < number → Next k (get_or states place from) to → ⊥) →
      IsSearched Next from place (suc number) (states ++ next ∷ []) (labels ++ label place number ∷ []) (with_list lists (label place number))
  breadth_grows place bound number states labels lists next was small up leads same skipped =
      let path = get_or lists place [] ++ number ∷ [] in
      let grown = lists ++ path ∷ [] in
      let others = states ++ next ∷ [] in
      let many : length lists ≡ length states = omega (arith, was.labelled.as_many, was.as_many) in
      let more : length others ≡ length states + 1 = length_push states next in
      let list : (m : ℕ) → m < length states → get_or lists m [] ≡ get_or grown m [] = λ m lt. sym (get_or_append_left lists (path ∷ []) [] m (omega arith)) in
      let state : (m : ℕ) → m < length states → get_or states m from ≡ get_or others m from = λ m lt. sym (get_or_append_left states (next ∷ []) from m lt) in
      let list_last : (m : ℕ) → m ≡ length states → path ≡ get_or grown m [] = λ m is. sym (get_or_push lists path [] m (many ∙ sym is)) in
      let state_last : (m : ℕ) → m ≡ length states → next ≡ get_or others m from = λ m is. sym (get_or_push states next from m (sym is)) in
      let found : (to : S) (ks : List ℕ) → IsFoundBy states lists from to ks → IsFoundBy others grown from to ks =
      λ to ks f. record { place = f.place; within = omega (arith, f.within); is = sym (state f.place f.within) ∙ f.is; least = subst (λ js. IsAtMost js ks) (list f.place f.within) f.least } in
      record {
        labelled = labelled_on lists labels place number was.labelled was.prior (omega (arith, was.as_many));
        prior = prior_on labels place number was.prior (omega (arith, was.as_many));
        as_many = omega (arith, more, was.as_many, length_push labels (label place number));
        first = sym (state 0 (omega arith)) ∙ was.first;
        leads = λ m lt. leads_at m (lt_or_same m (length states) (omega arith)) list state list_last state_last;
        rising = λ a b ab lt. rising_at a b ab (lt_or_same b (length states) (omega arith)) list list_last;
        below = λ _ m lt. subst (λ js. IsBefore (get_or grown m []) (js ++ suc number ∷ [])) (list place small) (below_at m (lt_or_same m (length states) (omega arith)) list list_last);
        closed = λ m k to lt tried moves. closed_at m k to (lt_or_same m (length states) (omega arith)) (tried_cases place bound (suc number) m k tried) moves list state list_last state_last found (omega arith);
        within = omega (arith, was.within);
      }
    where
      path_of : List ℕ
      path_of = get_or lists place [] ++ number ∷ []

      grown_of : List (List ℕ)
      grown_of = lists ++ (get_or lists place [] ++ number ∷ []) ∷ []

      leads_at : (m : ℕ) → (m < length states) ⊎ (m ≡ length states) → ((n : ℕ) → n < length states → get_or lists n [] ≡ get_or grown_of n []) →
          ((n : ℕ) → n < length states → get_or states n from ≡ get_or (states ++ next ∷ []) n from) →
          ((n : ℕ) → n ≡ length states → path_of ≡ get_or grown_of n []) →
          ((n : ℕ) → n ≡ length states → next ≡ get_or (states ++ next ∷ []) n from) →
          LeadOn Next from (get_or grown_of m []) (get_or (states ++ next ∷ []) m from)
      leads_at m (inl lt) list state list_last state_last = both (LeadOn Next from) (list m lt) (state m lt) (was.leads m lt)
      leads_at m (inr is) list state list_last state_last = both (LeadOn Next from) (list_last m is) (state_last m is) (leads_more Next from (get_or lists place []) (get_or states place from) number next (was.leads place small) leads)

      rising_at : (a b : ℕ) → a < b → (b < length states) ⊎ (b ≡ length states) → ((n : ℕ) → n < length states → get_or lists n [] ≡ get_or grown_of n []) →
          ((n : ℕ) → n ≡ length states → path_of ≡ get_or grown_of n []) → IsBefore (get_or grown_of a []) (get_or grown_of b [])
      rising_at a b ab (inl lt) list list_last = both IsBefore (list a (omega arith)) (list b lt) (was.rising a b ab lt)
      rising_at a b ab (inr is) list list_last = both IsBefore (list a (omega arith)) (list_last b is) (before_up _ _ _ _ (was.below small a (omega arith)) up)

      below_at : (m : ℕ) → (m < length states) ⊎ (m ≡ length states) → ((n : ℕ) → n < length states → get_or lists n [] ≡ get_or grown_of n []) →
          ((n : ℕ) → n ≡ length states → path_of ≡ get_or grown_of n []) → IsBefore (get_or grown_of m []) (get_or lists place [] ++ suc number ∷ [])
      below_at m (inl lt) list list_last = subst (λ js. IsBefore js (get_or lists place [] ++ suc number ∷ [])) (list m lt) (before_up _ _ _ _ (was.below small m lt) (omega arith))
      below_at m (inr is) list list_last =
          subst (λ js. IsBefore js (get_or lists place [] ++ suc number ∷ [])) (list_last m is) (before_last (get_or lists place []) number (suc number) (omega arith))

      closed_at : (m k : ℕ) (to : S) → (m < length states) ⊎ (m ≡ length states) → IsTried place bound m k ⊎ ((m ≡ place) × ((bound ≤ k) × (k < suc number))) → Next k (get_or (states ++ next ∷ []) m from) to →
          ((n : ℕ) → n < length states → get_or lists n [] ≡ get_or grown_of n []) →
          ((n : ℕ) → n < length states → get_or states n from ≡ get_or (states ++ next ∷ []) n from) →
          ((n : ℕ) → n ≡ length states → path_of ≡ get_or grown_of n []) →
          ((n : ℕ) → n ≡ length states → next ≡ get_or (states ++ next ∷ []) n from) →
          ((t : S) (ks : List ℕ) → IsFoundBy states lists from t ks → IsFoundBy (states ++ next ∷ []) grown_of from t ks) →
          length states < length (states ++ next ∷ []) →
          IsFoundBy (states ++ next ∷ []) grown_of from to (get_or grown_of m [] ++ k ∷ [])
      closed_at m k to (inr end) (inl (inl lt)) moves list state list_last state_last found longer = absurd (omega (arith, was.within))
      closed_at m k to (inr end) (inl (inr h)) moves list state list_last state_last found longer = let e = h.0 in absurd (omega arith)
      closed_at m k to (inr end) (inr new) moves list state list_last state_last found longer = let e = new.0 in absurd (omega arith)
      closed_at m k to (inl lt) (inl tried) moves list state list_last state_last found longer =
          subst (λ js. IsFoundBy (states ++ next ∷ []) grown_of from to (js ++ k ∷ [])) (list m lt)
          (found to (get_or lists m [] ++ k ∷ []) (was.closed m k to lt tried (subst (λ e. Next k e to) (sym (state m lt)) moves)))
      closed_at m k to (inl lt) (inr new) moves list state list_last state_last found longer = by (lt_or_same k number (let lt = new.1.1 in omega arith))
        where
          here_by : Next k (get_or states place from) to
          here_by = subst (λ n. Next k (get_or states n from) to) new.0 (subst (λ e. Next k e to) (sym (state m lt)) moves)

          by : (k < number) ⊎ (k ≡ number) → IsFoundBy (states ++ next ∷ []) grown_of from to (get_or grown_of m [] ++ k ∷ [])
          by (inl less) = absurd (skipped k to new.1.0 less here_by)
          by (inr is) =
              let here : Next number (get_or states place from) to = subst (λ j. Next j (get_or states place from) to) is here_by in
              let it_is : get_or lists m [] ++ k ∷ [] ≡ path_of = λ i. get_or lists (new.0 i) [] ++ is i ∷ [] in
              let lists_here : path_of ≡ get_or grown_of m [] ++ k ∷ [] = sym it_is ∙ ap (λ js. js ++ k ∷ []) (list m lt) in
              record {
                place = length states;
                within = longer;
                is = sym (state_last (length states) refl) ∙ sym (same to here);
                least = both IsAtMost (list_last (length states) refl) lists_here (at_most_itself path_of);
              }

  -- when no number is left that leads on from a place, the next place comes
  pub breadth_turns : (place bound : ℕ) (states : List S) (labels : List Label) (lists : List (List ℕ)) → ((k : ℕ) (to : S) → bound ≤ k → Next k (get_or states place from) to → ⊥) →
      IsSearched Next from place bound states labels lists → place < length states → IsSearched Next from (place + 1) 0 states labels lists
  breadth_turns place bound states labels lists over was small = record {
    labelled = was.labelled;
    prior = was.prior;
    as_many = was.as_many;
    first = was.first;
    leads = was.leads;
    rising = was.rising;
    below = λ later m lt. before_on _ _ _ (was.below small m lt) (before_with (get_or lists place []) (get_or lists (place + 1) []) bound 0 (was.rising place (place + 1) (omega arith) later));
    closed = λ m k to lt tried next. closed_at m k to lt tried next;
    within = omega arith;
  }
    where
      closed_here : (m k : ℕ) (to : S) → m < length states → (m < place) ⊎ (m ≡ place) → (k < bound) ⊎ (bound ≤ k) → Next k (get_or states m from) to → IsFoundBy states lists from to (get_or lists m [] ++ k ∷ [])
      closed_here m k to lt (inl before) h next = was.closed m k to lt (inl before) next
      closed_here m k to lt (inr is) (inl less) next = was.closed m k to lt (inr (is, less)) next
      closed_here m k to lt (inr is) (inr le) next = absurd (over k to le (subst (λ n. Next k (get_or states n from) to) is next))

      closed_at : (m k : ℕ) (to : S) → m < length states → IsTried (place + 1) 0 m k → Next k (get_or states m from) to → IsFoundBy states lists from to (get_or lists m [] ++ k ∷ [])
      closed_at m k to lt (inl before) next = closed_here m k to lt (lt_or_same m place before) (cases_lt k bound) next
      closed_at m k to lt (inr h) next = let less = h.1 in absurd (omega arith)
