-- A set that has just the candidates of a list.
use Rattle.std.specs.Prelude.{◌≡◌, Bool, List}
use Rattle.std.specs.List.{list_any}
use Rattle.find_order.specs.Same.{same_candidate}
use Rattle.find_order.specs.declared.candidate.Candidate.{Candidate}

-- a candidate is one of these
abbrev pub has : List Candidate → Candidate → Bool
has list candidate = list_any (same_candidate candidate) list

-- the same candidates are of the one list and of the other
abbrev pub HasJust : List Candidate → List Candidate → Type 0
HasJust keys list = (candidate : Candidate) → has keys candidate ≡ has list candidate
