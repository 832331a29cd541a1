-- Numbers as texts spell them.
use Rattle.std.specs.Prelude.{◌≡◌, ℕ, ◌<◌, ◌≤◌, true, ℤ, pos, neg_ℤ, List, ◌∷◌, length, ◌⊎◌}
use Rattle.std.specs.Str.{all_ascii_digits}
use Rattle.std.specs.Str.Parse.{digits_value}

-- one digit or more, and nothing else
pub record IsDigits (text : List ℕ) : Type 0 where
  pub some : 0 < length text
  pub digits : all_ascii_digits text ≡ true

-- the number that digits spell
abbrev pub value : List ℕ → ℕ
value text = digits_value 10 text

-- from 1 to 18 digits that spell a number
pub record IsNatural (text : List ℕ) (n : ℕ) : Type 0 where
  pub digits : IsDigits text
  pub short : length text ≤ 18
  pub is : value text ≡ n

-- an optional '-' and digits, however many
abbrev pub IsWhole : List ℕ → ℤ → Type 0
IsWhole text z = (IsDigits text × (z ≡ pos (value text))) ⊎ ((digits : List ℕ) × ((text ≡ 45 ∷ digits) × (IsDigits digits × (z ≡ neg_ℤ (pos (value digits))))))
