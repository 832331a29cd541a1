use Rattle.std.proofs.Common.{◌≡◌, take}
use Rattle.recipe_book.specs.ByShape.{IsIndex}
use Rattle.recipe_book.proofs.index.index_by_shape.Given as goal

abbrev pub invariant-loop-salvo : goal.invariant-loop-salvo
invariant-loop-salvo l = (l.number ≡ l.salvo-index) × IsIndex (take l.salvo-index l.salvos) l.index.entries
