-- How many states are reached.
use Rattle.std.specs.Prelude.{◌≡◌, ◌↔◌, ℕ, ◌<◌, ◌≤◌, Bool, List, length}
use Rattle.std.specs.List.{Contains, IsDistinct}
use Rattle.breadth_search.specs.Walks.{IsReached}

-- so many states are reached from one, and no more than the limit
pub record HasReached {S : Type 0} (eq : S → S → Bool) (Next : ℕ → S → S → Type 0) (from : S) (limit count : ℕ) : Type 0 where
  pub states : List S
  pub distinct : IsDistinct eq states
  pub are : (at : S) → Contains states at ↔ IsReached Next from at
  pub count_is : length states ≡ count
  pub within : count ≤ limit

-- more states than the limit are reached from one
pub record HasReachedMore {S : Type 0} (eq : S → S → Bool) (Next : ℕ → S → S → Type 0) (from : S) (limit : ℕ) : Type 0 where
  pub states : List S
  pub distinct : IsDistinct eq states
  pub reached : (at : S) → Contains states at → IsReached Next from at
  pub more : limit < length states
