use Rattle.std.proofs.Common.{◌≡◌, length}
use Rattle.std.specs.Vec.Iter.{into_iter_items, into_iter_len}
use Rattle.recipe_book.proofs.Judged.{SalvosSoFar}
use Rattle.recipe_book.proofs.salvos.sound_salvos.Given as goal

abbrev pub invariant-loop-salvo : goal.invariant-loop-salvo
invariant-loop-salvo g l =
    (into_iter_len l.salvo-iterator ≡ length (into_iter_items l.salvo-iterator))
    × SalvosSoFar l.hand l.fn.salvos.items (into_iter_items l.salvo-iterator) l.found.items l.initial.verdicts.items l.verdicts.items l.initial.steps l.steps
