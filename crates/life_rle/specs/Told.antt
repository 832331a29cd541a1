-- How the numbers of a place are found and told, which may be too large to be held: exactly up to 2^40, and beyond it only that they are.
use Rattle.std.specs.Prelude.{◌≡◌, ◌≢◌, ℕ, ◌<◌, ◌≤◌, ◌^◌, Bool, true, false, ◌==◌, ℤ, List, ◌∷◌, ◌++◌}
use Rattle.std.specs.List.{AllByRecursion}
use Rattle.life_cells.specs.declared.cell.Cell.{Cell}
use Rattle.text_lines.specs.Blanks.{is_blank_byte}
use Rattle.rle_items.specs.Reach.{IsNearZero, IsInReach}

abbrev pub is_comma : ℕ → Bool
is_comma b = b == 44

-- the bytes are these two parts, with a comma between them that is the first
pub record IsCommaSplit (bytes x y : List ℕ) : Type 0 where
  pub whole : bytes ≡ x ++ (44 ∷ y)
  pub first : AllByRecursion (λ b. b ≢ 44) x

-- the line is these two parts, with a space or tab between them that is the first
pub record IsWordSplit (line word more : List ℕ) : Type 0 where
  pub blank : ℕ
  pub whole : line ≡ word ++ (blank ∷ more)
  pub is_blank : is_blank_byte blank ≡ true
  pub others : AllByRecursion (λ b. is_blank_byte b ≡ false) word

-- it has no space or tab
abbrev pub IsOneWord : List ℕ → Type 0
IsOneWord line = AllByRecursion (λ b. is_blank_byte b ≡ false) line

-- the number n is told as m
pub record TellsSize (n m : ℕ) : Type 0 where
  pub exact : m ≤ 2 ^ 40 → m ≡ n
  pub beyond : 2 ^ 40 < m → 2 ^ 40 < n

-- the number z is told as n
pub record TellsNumber (z n : ℤ) : Type 0 where
  pub exact : IsNearZero n → n ≡ z
  pub near : IsNearZero z → IsNearZero n

-- the place is told as this cell
pub record TellsPlace (place told : Cell) : Type 0 where
  pub exact : IsInReach told → told ≡ place
  pub near : IsInReach place → IsInReach told
