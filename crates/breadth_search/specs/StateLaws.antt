-- The number of the states that are reached is one, and within a limit or not.
use Rattle.std.proofs.Common.{◌≡◌, ℕ, ◌≤◌, Bool, true, List, length, arith}
use Rattle.std.specs.Cmp.{IsEquivalence}
use Rattle.std.specs.List.{Contains, IsDistinct}
use Rattle.std.proofs.lemmas.Map.Made.{length-le_from_is_member}
use Rattle.std.proofs.lemmas.Map.Views.{Contains-from_any, list_any-from_Contains}
use Rattle.breadth_search.specs.States.{HasReached, HasReachedMore}

module _ {S : Type 0} (eq : S → S → Bool) (laws : IsEquivalence eq) (same : (a b : S) → eq a b ≡ true → a ≡ b) where
  -- states, each once, that are all among others are no more than those
  pub no_more : (few many : List S) → IsDistinct eq few → ((at : S) → Contains few at → Contains many at) → length few ≤ length many
  no_more few many distinct among =
      length-le_from_is_member laws few many distinct (λ at member. list_any-from_Contains laws at many (among at (Contains-from_any same at few member)))

  pub one_number : (Next : ℕ → S → S → Type 0) (from : S) (limit other a b : ℕ) → HasReached eq Next from limit a → HasReached eq Next from other b → a ≡ b
  one_number Next from limit other a b h k =
      let low = no_more h.states k.states h.distinct (λ at there. (k.are at).1 ((h.are at).0 there)) in
      let high = no_more k.states h.states k.distinct (λ at there. (h.are at).1 ((k.are at).0 there)) in
      let first = h.count_is in
      let second = k.count_is in
      omega arith

  pub not_more : (Next : ℕ → S → S → Type 0) (from : S) (limit n : ℕ) → HasReached eq Next from limit n → HasReachedMore eq Next from limit → ⊥
  not_more Next from limit n h more =
      let low = no_more more.states h.states more.distinct (λ at there. (h.are at).1 (more.reached at there)) in
      let is = h.count_is in
      let most = h.within in
      let many = more.more in
      omega arith
