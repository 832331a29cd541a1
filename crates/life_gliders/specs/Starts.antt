-- Where a salvo's glider begins, in the order by y, then by x.
use Rattle.std.specs.Prelude.{◌≡◌, ℕ, zero, suc, ℤ, pos, ◌+ℤ◌, ◌*ℤ◌}
use Rattle.life_cells.specs.declared.cell.Cell.{Cell}
use Rattle.life_gliders.specs.Listing.{placed}
use Rattle.life_gliders.specs.declared.track.Track.TheVariants.{Salvo}

-- the cell of a phase at rest that is lowest, and leftmost of these: it comes first once the phase is turned upside down
abbrev pub first_of_phase : ℕ → ℤ × ℤ
first_of_phase zero = (pos 0, pos 2)
first_of_phase (suc n) = (pos 1, pos 3)

-- the salvo's glider of this lane and index is in phase n, and this is the cell that comes first in it
pub record StartsAt (first : Cell) (n : ℕ) (lane j : ℤ) : Type 0 where
  pub quarters : ℤ
  pub index : j ≡ pos 4 *ℤ quarters +ℤ pos n
  pub at : first ≡ placed (Salvo lane) quarters (first_of_phase n)
