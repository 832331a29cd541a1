use Rattle.std.proofs.Common.{◌≡◌, ◌+◌, take, length}
use Rattle.std.specs.List.{sum_by}
use Rattle.life_cells.specs.Cells.{in_order}
use Rattle.book_parts.specs.declared.salvo.RawSalvo.{RawSalvo}
use Rattle.recipe_find.proofs.room.with_salvos.Given as goal

-- those so far are counted
abbrev pub invariant-loop-salvo : goal.invariant-loop-salvo
invariant-loop-salvo l = l.count ≡ l.fn.cells + sum_by (λ (salvo : RawSalvo). length (in_order salvo.product)) (take l.salvo-index l.salvos)
