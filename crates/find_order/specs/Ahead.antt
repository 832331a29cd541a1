-- Which lists are still to come, from one of them on.
use Rattle.std.specs.Prelude.{ℕ, suc, ◌-◌, Bool, true, false, ℤ, pos, ◌+ℤ◌, List, [], ◌∷◌, ◌++◌, length}
use Rattle.std.specs.List.{flat_map}
use Rattle.find_order.specs.Lists.{numbers, with_first, lists_of, lists_up}

-- the lists of its length that come behind a list, of numbers from low to high
abbrev pub behind : ℤ → ℤ → List ℤ → List (List ℤ)
behind low high [] = []
behind low high (first ∷ rest) =
    with_first first (behind low high rest)
    ++ flat_map (λ (other : ℤ). with_first other (lists_of (numbers low high) (length rest))) (numbers (first +ℤ pos 1) high)

-- a list and all that come behind it, up to the longest
abbrev pub on_from : ℤ → ℤ → ℕ → List ℤ → List (List ℤ)
on_from low high longest list = list ∷ (behind low high list ++ lists_up (numbers low high) (suc (length list)) (longest - length list))

-- the same, or none where all have been
abbrev pub to_come : Bool → ℤ → ℤ → ℕ → List ℤ → List (List ℤ)
to_come true low high longest list = []
to_come false low high longest list = on_from low high longest list
