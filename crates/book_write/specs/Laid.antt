-- Words in a line, and lines in a text.
use Rattle.std.specs.Prelude.{◌≡◌, ℕ, List, [], ◌∷◌, ◌++◌, flat_map}
use Rattle.std.specs.List.{join_by}

-- words with a space before each
abbrev pub spaced : List (List ℕ) → List ℕ
spaced words = flat_map (λ word. (32 ∷ []) ++ word) words

-- the line with these words, one space between each two
abbrev pub line_of : List (List ℕ) → List ℕ
line_of words = join_by (λ word. word) (32 ∷ []) words

-- the same with the line feed that ends it
abbrev pub ended_line : List (List ℕ) → List ℕ
ended_line words = line_of words ++ (10 ∷ [])

-- the text of lines, each given by its words
abbrev pub text_of : List (List (List ℕ)) → List ℕ
text_of lines = flat_map ended_line lines

-- words with this property were appended, with a space before each
abbrev pub AppendsWords : List ℕ → List ℕ → (List (List ℕ) → Type 0) → Type 0
AppendsWords old new P = (words : List (List ℕ)) × ((new ≡ old ++ spaced words) × P words)

-- a line whose words have this property was appended
abbrev pub AppendsLine : List ℕ → List ℕ → (List (List ℕ) → Type 0) → Type 0
AppendsLine old new P = (words : List (List ℕ)) × ((new ≡ old ++ ended_line words) × P words)

-- lines with this property were appended, each given by its words
abbrev pub AppendsLines : List ℕ → List ℕ → (List (List (List ℕ)) → Type 0) → Type 0
AppendsLines old new P = (lines : List (List (List ℕ))) × ((new ≡ old ++ text_of lines) × P lines)
