-- The names of kinds, and their numbers.
use Rattle.std.specs.Prelude.{ℕ, ◌+◌, List, [], ◌∷◌, Option, unwrap_or, if◌then◌else◌}
use Rattle.std.specs.declared.option.Option.TheVariants.{Some, None}
use Rattle.std.specs.Str.{bytes_eq}
use Rattle.book_parts.specs.declared.kind.RawKind.{RawKind}

-- the number of the kind with this name, where they are counted from a number on
abbrev pub number_from : ℕ → List RawKind → List ℕ → Option ℕ
number_from n [] name = None
number_from n (kind ∷ kinds) name = if bytes_eq name kind.name then Some n else number_from (n + 1) kinds name

-- the number of the kind with this name, counted from 1
abbrev pub number_of : List RawKind → List ℕ → Option ℕ
number_of kinds name = number_from 1 kinds name

-- the number of a kind that is known
abbrev pub known_number : List RawKind → List ℕ → ℕ
known_number kinds name = unwrap_or (number_of kinds name) 0
