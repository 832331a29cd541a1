-- The numbers that lead on from a state, and those with which a list may end there.
use Rattle.std.specs.Prelude.{◌≡◌, ℕ, ◌<◌, ◌≤◌}
use Rattle.std.specs.declared.option.Option.{Option}
use Rattle.std.specs.declared.option.Option.TheVariants.{Some, None}
use Rattle.breadth_search.specs.declared.graph.Lead.{Lead}

-- the least number from a bound on that leads on from a state, and the one state to which it leads
pub record IsLead {S : Type 0} (Next : ℕ → S → S → Type 0) (at : S) (bound : ℕ) (lead : Lead S) : Type 0 where
  pub up : bound ≤ lead.number
  pub leads : Next lead.number at lead.to
  pub only : (to : S) → Next lead.number at to → to ≡ lead.to
  pub least : (k : ℕ) (to : S) → bound ≤ k → k < lead.number → Next k at to → ⊥

-- that number; none where no number from the bound on leads on
abbrev pub IsFirstLead : {S : Type 0} → (ℕ → S → S → Type 0) → S → ℕ → Option (Lead S) → Type 0
IsFirstLead {S} Next at bound None = (k : ℕ) (to : S) → bound ≤ k → Next k at to → ⊥
IsFirstLead {S} Next at bound (Some lead) = IsLead Next at bound lead

-- the number leads on from a state to some state
abbrev pub LeadsOn : {S : Type 0} → (ℕ → S → S → Type 0) → S → ℕ → Type 0
LeadsOn {S} Next at number = (to : S) × Next number at to

-- the least number with which a list may end at a state; none where there is none
abbrev pub IsFirstEnd : {S : Type 0} → (ℕ → S → Type 0) → S → Option ℕ → Type 0
IsFirstEnd Last at None = (k : ℕ) → Last k at → ⊥
IsFirstEnd Last at (Some number) = Last number at × ((k : ℕ) → Last k at → number ≤ k)
