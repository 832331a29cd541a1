-- The least list is no longer than there are states on the way.
use Rattle.std.proofs.Common.{◌≡◌, ◌⊎◌, ℕ, suc, ◌<◌, ◌≤◌, Bool, true, false, ◌||◌, List, [], ◌∷◌, ◌++◌, length, inl, inr, refl, sym, ap, subst, arith}
use Rattle.std.specs.Cmp.{IsEquivalence}
use Rattle.std.specs.List.{AllByRecursion, IsDistinct, list_any, Contains}
use Rattle.std.proofs.lemmas.List.Elements.{All-from_recursion}
use Rattle.std.proofs.lemmas.Map.Keys.{IsDistinct-cons}
use Rattle.std.proofs.lemmas.Map.Views.{Contains-from_any}
use Rattle.life_plane.specs.ListLaws.{all_weaker}
use Rattle.breadth_search.specs.ListOrder.{IsAtMost}
use Rattle.breadth_search.specs.States.{HasReached}
use Rattle.breadth_search.specs.Walks.{LeadOn, EndsWith, IsLeastEnding, IsReached}
use Rattle.breadth_search.specs.StateLaws.{no_more}

-- a list of at most n numbers ends from a state
record EndsWithin {S : Type 0} (Next : ℕ → S → S → Type 0) (Last : ℕ → S → Type 0) (n : ℕ) (at : S) : Type 0 where
  list : List ℕ
  ends : EndsWith Next Last at list
  short : length list ≤ n

-- a list of fewer than n does
record EndsSooner {S : Type 0} (Next : ℕ → S → S → Type 0) (Last : ℕ → S → Type 0) (n : ℕ) (at : S) : Type 0 where
  list : List ℕ
  ends : EndsWith Next Last at list
  shorter : length list < n

-- n states, each once, that are reached, and from which at most n numbers end
record IsWalked {S : Type 0} (eq : S → S → Bool) (Next : ℕ → S → S → Type 0) (Last : ℕ → S → Type 0) (from : S) (n : ℕ) : Type 0 where
  states : List S
  long : length states ≡ n
  distinct : IsDistinct eq states
  reached : AllByRecursion (IsReached Next from) states
  ends : AllByRecursion (EndsWithin Next Last n) states

false_left : (a b : Bool) → (a || b) ≡ false → a ≡ false
false_left true b h = h
false_left false b h = refl

false_right : (a b : Bool) → (a || b) ≡ false → b ≡ false
false_right true b h = cc
false_right false b h = h

none_same : {S : Type 0} (eq : S → S → Bool) (at : S) (states : List S) → list_any (eq at) states ≡ false → AllByRecursion (λ other. eq at other ≡ false) states
none_same eq at [] h = tt
none_same eq at (other ∷ states) h = (false_left (eq at other) (list_any (eq at) states) h, none_same eq at states (false_right (eq at other) (list_any (eq at) states) h))

module _ {S : Type 0} (eq : S → S → Bool) (laws : IsEquivalence eq) (same : (a b : S) → eq a b ≡ true → a ≡ b) (Next : ℕ → S → S → Type 0) (Last : ℕ → S → Type 0) where
  -- one state more before those of a list; where it is among them, the list from there on ends sooner
  walk_on : (n : ℕ) (from between : S) → EndsWithin Next Last (suc n) from → ((at : S) → IsReached Next between at → IsReached Next from at) → IsWalked eq Next Last between n →
      IsWalked eq Next Last from (suc n) ⊎ EndsSooner Next Last (suc n) from
  walk_on n from between ends on w = by (list_any (eq from) w.states) refl
    where
      later : (at : S) → EndsWithin Next Last n at → EndsWithin Next Last (suc n) at
      later at e = let short = e.short in record { list = e.list; ends = e.ends; short = omega arith }

      again : Contains w.states from → EndsSooner Next Last (suc n) from
      again there =
          let e : EndsWithin Next Last n from = subst (EndsWithin Next Last n) there.2 (All-from_recursion (EndsWithin Next Last n) w.states w.ends there.0 from there.1) in
          let short = e.short in
          record { list = e.list; ends = e.ends; shorter = omega arith }

      by : (b : Bool) → list_any (eq from) w.states ≡ b → IsWalked eq Next Last from (suc n) ⊎ EndsSooner Next Last (suc n) from
      by true is = inr (again (Contains-from_any same from w.states is))
      by false is = inl (record {
        states = from ∷ w.states;
        long = ap suc w.long;
        distinct = IsDistinct-cons eq from w.states (none_same eq from w.states is) w.distinct;
        reached = (([], refl), all_weaker (IsReached Next between) (IsReached Next from) on w.states w.reached);
        ends = (ends, all_weaker (EndsWithin Next Last n) (EndsWithin Next Last (suc n)) later w.states w.ends);
      })

  -- the states along a list that ends are distinct, or a shorter list ends
  walk : (list : List ℕ) (from : S) → EndsWith Next Last from list → IsWalked eq Next Last from (length list) ⊎ EndsSooner Next Last (length list) from
  unfolding IsDistinct
  walk [] from ends = absurd ends
  walk (k ∷ ks) from (inl last) = inl (record {
    states = from ∷ [];
    long = ap suc (sym (ap length last.1));
    distinct = (tt, tt);
    reached = (([], refl), tt);
    ends = (record { list = k ∷ ks; ends = inl last; short = omega arith }, tt);
  })
  walk (k ∷ ks) from (inr on) = by (walk ks on.0 on.1.1)
    where
      by : IsWalked eq Next Last on.0 (length ks) ⊎ EndsSooner Next Last (length ks) on.0 → IsWalked eq Next Last from (suc (length ks)) ⊎ EndsSooner Next Last (suc (length ks)) from
      by (inl w) = walk_on (length ks) from on.0 (record { list = k ∷ ks; ends = inr on; short = omega arith }) (λ at reached. (k ∷ reached.0, (on.0, (on.1.0, reached.1)))) w
      by (inr sooner) = let shorter = sooner.shorter in inr (record { list = k ∷ sooner.list; ends = inr (on.0, (on.1.0, sooner.ends)); shorter = omega arith })

  -- the least list has no more numbers than the states that are reached, also by more numbers and from a state that leads to this one
  pub least_is_short : (Wide : ℕ → S → S → Type 0) → ((k : ℕ) (a b : S) → Next k a b → Wide k a b) → (first from : S) (limit count : ℕ) (list : List ℕ) →
      HasReached eq Wide first limit count → IsReached Wide first from → IsLeastEnding Next Last from list → length list ≤ count
  least_is_short Wide wider first from limit count list states reached least = by (walk list from least.ends)
    where
      go_on : (ks js : List ℕ) (a at : S) → LeadOn Wide a ks from → LeadOn Next from js at → LeadOn Wide a (ks ++ js) at
      go_on [] js a at here on = subst (λ b. LeadOn Wide b js at) here (widen js from on)
        where
          widen : (js : List ℕ) (b : S) → LeadOn Next b js at → LeadOn Wide b js at
          widen [] b on = on
          widen (j ∷ js) b on = (on.0, (wider j b on.0 on.1.0, widen js on.0 on.1.1))
      go_on (k ∷ ks) js a at here on = (here.0, (here.1.0, go_on ks js here.0 at here.1.1 on))

      among : (w : IsWalked eq Next Last from (length list)) (at : S) → Contains w.states at → Contains states.states at
      among w at there =
          let on : IsReached Next from at = subst (IsReached Next from) there.2 (All-from_recursion (IsReached Next from) w.states w.reached there.0 at there.1) in
          (states.are at).1 (reached.0 ++ on.0, go_on reached.0 on.0 first at reached.1 on.1)

      not_sooner : (other : List ℕ) → IsAtMost list other → length other < length list → ⊥
      not_sooner other (inl shorter) sooner = omega arith
      not_sooner other (inr as_long) sooner = let e = as_long.0 in omega arith

      by : IsWalked eq Next Last from (length list) ⊎ EndsSooner Next Last (length list) from → length list ≤ count
      by (inl w) =
          let long = w.long in
          let count_is = states.count_is in
          let few = no_more eq laws same w.states states.states w.distinct (among w) in
          omega arith
      by (inr sooner) = absurd (not_sooner sooner.list (least.least sooner.list sooner.ends) sooner.shorter)
