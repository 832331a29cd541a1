-- The kinds of a book by their numbers.
use Rattle.std.specs.Prelude.{ℕ, zero, suc, List, [], ◌∷◌}
use Rattle.life_plane.specs.Plane.{Plane, nothing}
use Rattle.life_cells.specs.Cells.{alive}
use Rattle.book_parts.specs.declared.kind.RawKind.{RawKind}
use Rattle.book_parts.specs.declared.turn.TurnEnd.{TurnEnd}
use Rattle.book_parts.specs.declared.turn.TurnEnd.TheVariants.{Close, Move, Emit}

-- the cells of the kind with this number, counted from 1
abbrev pub kind_plane : List RawKind → ℕ → Plane
kind_plane [] k = nothing
kind_plane (kind ∷ kinds) zero = nothing
kind_plane (kind ∷ kinds) (suc zero) = alive kind.cells
kind_plane (kind ∷ kinds) (suc (suc k)) = kind_plane kinds (suc k)

-- the kind that a turn leads to; none where it closes
abbrev pub next_plane : List RawKind → TurnEnd → Plane
next_plane kinds Close = nothing
next_plane kinds (Move kind step) = kind_plane kinds kind
next_plane kinds (Emit kind step lane j) = kind_plane kinds kind
