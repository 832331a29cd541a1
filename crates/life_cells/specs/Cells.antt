-- Finite sets of cells, kept in (y,x) order: by y, then by x. "First" means first in that order.
use Rattle.std.specs.Prelude.{ℤ, List, map}
use Rattle.std.specs.declared.cmp.Ordering.{Ordering}
use Rattle.std.specs.Ordering.{int_cmp, ordering_then}
use Rattle.std.specs.List.Sorted.{IsStrictlySortedBy}
use Rattle.std.specs.FinMap as finite
use Rattle.std.specs.FinSet as set
use Rattle.std.specs.Coded.{Coded, coded_ℤ, coded×, code_by}
use Rattle.std.proofs.Common.{refl}
use Rattle.life_cells.specs.declared.cell.Cell.{Cell}
use Rattle.life_plane.specs.Plane.{Plane}

-- the cell at x and y
abbrev pub cell : ℤ → ℤ → Cell
cell x y = record { y = y; x = x }

-- by y, then by x
abbrev pub cell_cmp : Cell → Cell → Ordering
cell_cmp a b = ordering_then (int_cmp a.y b.y) (int_cmp a.x b.x)

-- a cell as a pair of numbers
abbrev pub coded_cell : Coded Cell
coded_cell = code_by (ℤ × ℤ) (coded× coded_ℤ coded_ℤ) (λ c. (c.y, c.x)) (λ p. record { y = p.0; x = p.1 }) (λ _. refl)

-- a finite set of cells
abbrev pub Cells : Type 0
Cells = set.FinSet cell_cmp

abbrev pub coded_cells : Coded Cells
coded_cells = set.code coded_cell

-- a set of cells as a plane: what lives is what is in it
unfoldable pub alive : Cells → Plane
alive s x y = finite.contains_key s (cell x y)

-- the cells of a set, each once, in order
unfoldable pub in_order : Cells → List Cell
in_order s = finite.keys s

-- a cell as an entry of a finite map that has nothing at each cell
abbrev pub entry : Cell → Cell × Unit {0}
entry c = (c, tt)

-- the set of the listed cells, in any order, repeats allowed
unfoldable pub from_list : List Cell → Cells
from_list cs = finite.from_entries (map entry cs)

-- the set with no cell
unfoldable pub empty : Cells
empty = finite.empty

-- each cell is before those after it
abbrev pub IsRising : List Cell → Type 0
IsRising cs = IsStrictlySortedBy cell_cmp cs
