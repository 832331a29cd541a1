-- The cells of a set in range, place by place.
use Rattle.std.proofs.Common.{◌≡◌, ℕ, ◌<◌, List, length, get_or}
use Rattle.life_cells.specs.declared.cell.Cell.{Cell}
use Rattle.life_cells.specs.Cells.{Cells, in_order, alive}
use Rattle.life_cells.specs.Boxes.{IsInRange, IsCellInRange}
use Rattle.life_cells.specs.PlaceLaws.{live_at}

-- the cell at a place is in range
pub place_in_range : (n : ℕ) (cs : List Cell) (s : Cells) (i : ℕ) (d : Cell) → IsInRange n (alive s) → cs ≡ in_order s → i < length cs → IsCellInRange n (get_or cs i d)
place_in_range n cs s i d range e lt =
    let live = live_at s cs e i d lt in
    record { x_low = range.x_low _ _ live; x_high = range.x_high _ _ live; y_low = range.y_low _ _ live; y_high = range.y_high _ _ live }
