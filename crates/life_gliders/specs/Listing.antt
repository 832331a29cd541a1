-- The cells of a glider in a fixed order: that of its phase at rest.
use Rattle.std.specs.Prelude.{ℕ, ℤ, pos, neg_ℤ, ◌+ℤ◌, List, map, unsigned_abs}
use Rattle.std.specs.Int.{int_div_euclid, int_rem_euclid}
use Rattle.life_plane.specs.Tracks.{phase}
use Rattle.life_cells.specs.Cells.{cell}
use Rattle.life_cells.specs.declared.cell.Cell.{Cell}
use Rattle.life_gliders.specs.declared.track.Track.{Track}
use Rattle.life_gliders.specs.declared.track.Track.TheVariants.{Stream, Salvo}

-- the whole quarters of an index: how far its phase has travelled
abbrev pub quarters : ℤ → ℤ
quarters j = int_div_euclid j (pos 4)

-- the cells of the phase of an index, at rest
abbrev pub at_rest : ℤ → List (ℤ × ℤ)
at_rest j = phase (unsigned_abs (int_rem_euclid j (pos 4)))

-- a cell at rest, as a pair of numbers
abbrev pub cell_at_rest : ℕ × ℕ → ℤ × ℤ
cell_at_rest c = (pos c.0, pos c.1)

-- where a glider that has travelled q quarters has a cell of its phase
abbrev pub placed : Track → ℤ → ℤ × ℤ → Cell
placed Stream q c = cell (q +ℤ c.0) (q +ℤ c.1)
placed (Salvo lane) q c = cell (lane +ℤ (q +ℤ c.0)) (neg_ℤ (q +ℤ c.1))

-- the cells of a glider, in the order of its phase
abbrev pub glider_list : Track → ℤ → List Cell
glider_list track j = map (placed track (quarters j)) (at_rest j)
