-- Lists of cells that rise are sorted, so that a search by halves finds its way in them.
use Rattle.std.specs.Prelude.{List, ◌+◌}
use Rattle.std.specs.declared.cmp.Ordering.TheVariants.{Less}
use Rattle.std.specs.Ordering.{is_lt}
use Rattle.std.specs.List.Sorted.{IsSorted}
use Rattle.std.proofs.Common.{ap, get_or, arith}
use Rattle.std.proofs.lemmas.Map.Keys.{Less-from_sorted}
use Rattle.life_cells.specs.declared.cell.Cell.{Cell}
use Rattle.life_cells.specs.Cells.{cell_cmp, IsRising}
use Rattle.life_cells.specs.OrderLaws.{turned}

pub sorted_from_rising : (cs : List Cell) → IsRising cs → IsSorted cell_cmp cs
sorted_from_rising cs h k d _ lt = ap is_lt (turned (get_or cs k d) (get_or cs (k + 1) d) Less (Less-from_sorted cell_cmp cs k (k + 1) d h (omega arith) lt))
