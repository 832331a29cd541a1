-- The first line of a text, and what follows it.
use Rattle.std.specs.Prelude.{ℕ, Bool, ◌==◌, List, length, if◌then◌else◌}
use Rattle.std.specs.List.{before_first, after_first}
use Rattle.std.specs.Str.Lines.{strip_carriage_return}

abbrev pub is_line_feed : ℕ → Bool
is_line_feed b = b == 10

-- what stands before the first line feed
abbrev pub front : List ℕ → List ℕ
front text = before_first is_line_feed text

-- the first line, without the carriage return before its line feed
abbrev pub first_line : List ℕ → List ℕ
first_line text = if length (front text) == length text then text else strip_carriage_return (front text)

-- what stands behind the first line and its line feed
abbrev pub behind : List ℕ → List ℕ
behind text = after_first is_line_feed text
