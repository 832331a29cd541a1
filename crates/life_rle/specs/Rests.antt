-- Rests of a text: what stands behind its first lines.
use Rattle.std.specs.Prelude.{◌≡◌, ℕ, ◌<◌, List, [], ◌∷◌, ◌++◌, length}
use Rattle.text_lines.specs.Lines.{first_line, behind}

-- the text begins with these lines, and this rest follows
abbrev pub BeginsWithLines : List ℕ → List (List ℕ) → List ℕ → Type 0
BeginsWithLines text [] rest = text ≡ rest
BeginsWithLines text (line ∷ more) rest = (0 < length text) × ((first_line text ≡ line) × BeginsWithLines (behind text) more rest)

-- the text ends with this rest
pub record EndsWith (text rest : List ℕ) : Type 0 where
  pub before : List ℕ
  pub split : text ≡ before ++ rest
