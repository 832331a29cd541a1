-- Comments, blank lines, and the words of a line.
use Rattle.std.specs.Prelude.{◌≡◌, ℕ, Bool, true, not, ◌||◌, ◌==◌, ◌⊎◌, List, length, filter, codes, nat_eq}
use Rattle.std.specs.List.{AllByRecursion, slice_split, starts_with}

-- a line that begins with `#`; one with blanks before the `#` is none
abbrev pub is_comment : List ℕ → Bool
is_comment line = starts_with nat_eq line (codes "#")

-- a space or a tab
abbrev pub is_blank_byte : ℕ → Bool
is_blank_byte b = b == 32 || b == 9

-- spaces and tabs, or nothing
abbrev pub IsBlank : List ℕ → Type 0
IsBlank line = AllByRecursion (λ b. is_blank_byte b ≡ true) line

-- a comment, or a blank line
abbrev pub IsPassedOver : List ℕ → Type 0
IsPassedOver line = (is_comment line ≡ true) ⊎ IsBlank line

-- the words of a line, separated by spaces and tabs
abbrev pub words : List ℕ → List (List ℕ)
words line = filter (λ w. not (length w == 0)) (slice_split is_blank_byte line)
