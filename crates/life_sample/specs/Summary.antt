-- The summary of what a sample builds for the empty target, in four lines.
use Rattle.std.specs.Prelude.{ℕ, List, [], ◌∷◌, ◌++◌, codes}
use Rattle.std.specs.Fmt.{decimal}

-- a word or two, and a number
abbrev pub line : List ℕ → ℕ → List ℕ
line what number = what ++ (32 ∷ []) ++ decimal number ++ (10 ∷ [])

-- how many kinds, how many gliders, the last glider's delay, and after how many generations nothing is left
abbrev pub summary : ℕ → ℕ → ℕ → List ℕ
summary count last_delay n = line (codes "kinds") count ++ line (codes "gliders") count ++ line (codes "last delay") last_delay ++ line (codes "generations") n
