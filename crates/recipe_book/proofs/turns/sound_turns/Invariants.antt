use Rattle.std.proofs.Common.{◌≡◌, length}
use Rattle.std.specs.Vec.Iter.{into_iter_items, into_iter_len}
use Rattle.recipe_book.proofs.Judged.{TurnsSoFar}
use Rattle.recipe_book.proofs.turns.sound_turns.Given as goal

abbrev pub invariant-loop-turn : goal.invariant-loop-turn
invariant-loop-turn g l =
    (into_iter_len l.turn-iterator ≡ length (into_iter_items l.turn-iterator))
    × TurnsSoFar l.settings l.kinds.raw l.fn.turns.items (into_iter_items l.turn-iterator) l.found.items l.initial.verdicts.items l.verdicts.items l.initial.steps l.steps
