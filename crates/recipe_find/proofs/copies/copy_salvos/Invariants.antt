use Rattle.std.proofs.Common.{◌≡◌, take}
use Rattle.recipe_book.specs.Checked.{raw_salvos}
use Rattle.recipe_find.proofs.copies.copy_salvos.Given as goal

-- those so far are copied
abbrev pub invariant-loop-salvo : goal.invariant-loop-salvo
invariant-loop-salvo l = l.copies.items ≡ raw_salvos (take l.salvo-index l.salvos)
