-- Live cells of a set: by their places, and in a range.
use Rattle.std.proofs.Common.{◌≡◌, ℕ, true, Some, ap, ◌∙◌}
use Rattle.std.specs.List.{slice_get}
use Rattle.life_plane.specs.Plane.{Plane}
use Rattle.life_cells.specs.declared.cell.Cell.{Cell}
use Rattle.life_cells.specs.Cells.{Cells, alive, in_order}
use Rattle.life_cells.specs.Boxes.{IsInRange, IsCellInRange}
use Rattle.life_cells.specs.Laws.{alive-in_order, listed_at_place}

-- what a set has at a place lives
pub live_there : (s : Cells) (k : ℕ) (c : Cell) → slice_get (in_order s) k ≡ Some c → alive s c.x c.y ≡ true
live_there s k c at_k = ap (λ (q : Plane). q c.x c.y) (alive-in_order s) ∙ listed_at_place (in_order s) k c at_k

-- what lives lies in the range
pub live_in_range : (n : ℕ) (s : Plane) (c : Cell) → IsInRange n s → s c.x c.y ≡ true → IsCellInRange n c
live_in_range n s c range l = record { x_low = range.x_low c.x c.y l; x_high = range.x_high c.x c.y l; y_low = range.y_low c.x c.y l; y_high = range.y_high c.x c.y l }
