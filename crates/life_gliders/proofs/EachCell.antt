-- Cells of a list, looked at one by one, and the first of a list in order.
use Rattle.std.proofs.Common.{◌≡◌, ◌≢◌, ℕ, ◌+◌, ◌<◌, ◌≤◌, true, ℤ, List, length, get_or, Some, ap, arith}
use Rattle.std.specs.declared.cmp.Ordering.TheVariants.{Less}
use Rattle.std.specs.List.{slice_get}
use Rattle.std.proofs.lemmas.Option.{slice_get_within, slice_get-get_or}
use Rattle.life_plane.specs.Plane.{Plane}
use Rattle.life_cells.specs.declared.cell.Cell.{Cell}
use Rattle.life_cells.specs.Cells.{cell, cell_cmp, IsRising, Cells, alive, in_order}
use Rattle.life_cells.specs.Boxes.{IsInRange, IsCellInRange}
use Rattle.life_cells.specs.Listed.{listed}
use Rattle.life_cells.specs.FirstLaws as first
use Rattle.life_cells.specs.PlaceLaws as places
use Rattle.life_cells.specs.Laws.{alive_of_order, place_of_listed}

-- what holds of each cell before a place
abbrev pub EachBefore : (Cell → Type 0) → List Cell → ℕ → Type 0
EachBefore P cs n = (k : ℕ) (d : Cell) → k < n → slice_get cs k ≡ Some d → P d

-- one cell more
pub each_more : (P : Cell → Type 0) (cs : List Cell) (i : ℕ) (z : Cell) → i < length cs → EachBefore P cs i → P (get_or cs i z) → EachBefore P cs (i + 1)
each_more P cs i z within before here = places.each_more cs P i (get_or cs i z) (slice_get-get_or cs i z within) before here

-- all cells
pub each_listed : (P : Cell → Type 0) (cs : List Cell) (n : ℕ) → length cs ≤ n → EachBefore P cs n → (x y : ℤ) → listed cs x y ≡ true → P (cell x y)
each_listed P cs n short each x y live =
    let p = place_of_listed cs x y live in
    let within = slice_get_within cs p.0 (cell x y) p.1 in
    each p.0 (cell x y) (omega arith) p.1

-- ---- the cells of a set

pub listed_is_alive : (cs : List Cell) (s : Cells) → cs ≡ in_order s → (x y : ℤ) → listed cs x y ≡ alive s x y
listed_is_alive cs s e x y = ap (λ (p : Plane). p x y) (alive_of_order cs s e)

pub live_in_range : (n : ℕ) (s : Plane) (c : Cell) → IsInRange n s → s c.x c.y ≡ true → IsCellInRange n c
live_in_range n s c range live = record { x_low = range.x_low _ _ live; x_high = range.x_high _ _ live; y_low = range.y_low _ _ live; y_high = range.y_high _ _ live }

-- ---- the first of a list in order

-- where none before a place has a property, no cell with it comes before the one at the place
pub first_place : (P : Cell → Type 0) (cs : List Cell) (i : ℕ) (z : Cell) → IsRising cs → i < length cs → EachBefore (λ d. P d → ⊥) cs i → (x y : ℤ) → listed cs x y ≡ true → P (cell x y) → cell_cmp (cell x y) (get_or cs i z) ≢ Less
first_place P cs i z rises within none x y here p = first.first_place cs rises (λ a b. P (cell a b)) i (get_or cs i z) (slice_get-get_or cs i z within) none x y here p
