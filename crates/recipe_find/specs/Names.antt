-- The names of what is found.
use Rattle.std.specs.Prelude.{◌≡◌, ℕ, ◌<◌, List, ◌++◌, codes, replicate}
use Rattle.std.specs.Fmt.{decimal}
use Rattle.book_parts.specs.Proper.{IsNoneOf}

-- `found`, the candidate's number, and so many letters `x`
abbrev pub found_name : ℕ → ℕ → List ℕ
found_name number letters = codes "found" ++ (decimal number ++ replicate letters 120)

-- the name of what a candidate adds: with as few letters `x` as make it none of the others
pub record IsNewName (others : List (List ℕ)) (number : ℕ) (name : List ℕ) : Type 0 where
  pub letters : ℕ
  pub is : name ≡ found_name number letters
  pub new : IsNoneOf others name
  pub least : (fewer : ℕ) → fewer < letters → IsNoneOf others (found_name number fewer) → ⊥
