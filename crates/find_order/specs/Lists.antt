-- All lists of numbers of a range: shorter ones first, and of one length number by number.
use Rattle.std.specs.Prelude.{ℕ, zero, suc, ℤ, pos, ◌+ℤ◌, List, [], ◌∷◌, ◌++◌, map}
use Rattle.std.specs.Int.{int_gap}
use Rattle.std.specs.List.{flat_map}

-- so many whole numbers, from this one on
abbrev pub numbers_from : ℤ → ℕ → List ℤ
numbers_from low zero = []
numbers_from low (suc more) = low ∷ numbers_from (low +ℤ pos 1) more

-- the whole numbers from low to high
abbrev pub numbers : ℤ → ℤ → List ℤ
numbers low high = numbers_from low (int_gap low (high +ℤ pos 1))

-- lists, with a number in front of each
abbrev pub with_first : ℤ → List (List ℤ) → List (List ℤ)
with_first first lists = map (λ (list : List ℤ). first ∷ list) lists

-- all lists of a length whose items are some of these: those with the first of these in front, then those with the second, and so on
abbrev pub lists_of : List ℤ → ℕ → List (List ℤ)
lists_of items zero = [] ∷ []
lists_of items (suc length) = flat_map (λ (first : ℤ). with_first first (lists_of items length)) items

-- the lists of so many lengths, from this length on
abbrev pub lists_up : List ℤ → ℕ → ℕ → List (List ℤ)
lists_up items length zero = []
lists_up items length (suc more) = lists_of items length ++ lists_up items (suc length) more
