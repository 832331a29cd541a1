-- Lists of numbers in the order of length, and number by number where they are as long.
use Rattle.std.specs.Prelude.{◌≡◌, ◌⊎◌, ℕ, ◌<◌, List, [], ◌∷◌, length}

-- of two lists of one length, the first comes no later, number by number
abbrev pub IsNoLater : List ℕ → List ℕ → Type 0
IsNoLater [] ks = Unit {0}
IsNoLater (j ∷ js) [] = ⊥
IsNoLater (j ∷ js) (k ∷ ks) = (j < k) ⊎ ((j ≡ k) × IsNoLater js ks)

-- shorter, or as long and no later
abbrev pub IsAtMost : List ℕ → List ℕ → Type 0
IsAtMost js ks = (length js < length ks) ⊎ ((length js ≡ length ks) × IsNoLater js ks)

-- of two lists of one length, the first comes earlier, number by number
abbrev pub IsEarlier : List ℕ → List ℕ → Type 0
IsEarlier [] ks = ⊥
IsEarlier (j ∷ js) [] = ⊥
IsEarlier (j ∷ js) (k ∷ ks) = (j < k) ⊎ ((j ≡ k) × IsEarlier js ks)

-- shorter, or as long and earlier
abbrev pub IsBefore : List ℕ → List ℕ → Type 0
IsBefore js ks = (length js < length ks) ⊎ ((length js ≡ length ks) × IsEarlier js ks)
