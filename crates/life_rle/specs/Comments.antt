-- Comments of a text made blank.
use Rattle.std.specs.Prelude.{ℕ, ◌||◌, ◌&&◌, ◌==◌, Bool, not, List, map, if◌then◌else◌}
use Rattle.std.specs.List.{slice_split, join_with_byte}
use Rattle.text_lines.specs.Lines.{is_line_feed}
use Rattle.text_lines.specs.Blanks.{is_comment}

-- a comment becomes as many spaces, and another line stays as it is
abbrev pub blank_comment : List ℕ → List ℕ
blank_comment line = if is_comment line then map (λ b. 32) line else line

-- the text with its comment lines made blank, so that all else stays in its place
abbrev pub blanked : List ℕ → List ℕ
blanked text = join_with_byte 10 (map blank_comment (slice_split is_line_feed text))

-- a byte stands in a comment, where it begins a line or not, and where the byte before it stands in one or not
abbrev pub is_hidden : Bool → Bool → ℕ → Bool
is_hidden starts hidden b = not (b == 10) && (hidden || (starts && b == 35))

-- a byte, or a space in its place
abbrev pub shown : Bool → ℕ → ℕ
shown hidden b = if hidden then 32 else b
