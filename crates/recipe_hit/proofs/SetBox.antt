-- The box of a set.
use Rattle.std.proofs.Common.{◌≡◌, Option, Some, None, ap, ◌∙◌, IfSome, IfNone}
use Rattle.life_cells.specs.declared.bounds.Bounds.{Bounds}
use Rattle.life_cells.specs.Boxes.{IsLeastBox, IsBoxOf}
use Rattle.life_cells.specs.Cells.{Cells, alive, empty}
use Rattle.life_cells.specs.Laws.{alive-empty}

-- the box of a set, or none
pub box_of_set : (box : Option Bounds) (s : Cells) → IfSome box (λ b. IsLeastBox b (alive s)) → IfNone box (s ≡ empty) → IsBoxOf box (alive s)
box_of_set None s some none = ap alive none ∙ alive-empty
box_of_set (Some b) s some none = some
