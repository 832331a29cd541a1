use Rattle.std.proofs.Common.{take, map}
use Rattle.book_parts.specs.Proper.{IsNoneOf}
use Rattle.book_parts.specs.declared.salvo.RawSalvo.{RawSalvo}
use Rattle.recipe_book.specs.Checked.{raw_salvos}
use Rattle.recipe_find.proofs.names.is_new_to_salvos.Given as goal

-- none of the salvos so far has the name
abbrev pub invariant-loop-salvo : goal.invariant-loop-salvo
invariant-loop-salvo l = IsNoneOf (map (λ (salvo : RawSalvo). salvo.name) (raw_salvos (take l.salvo-index l.salvos))) l.name
