-- The lines before the index are written.
use Rattle.std.proofs.Common.{◌≡◌, ◌++◌, map, take}
use Rattle.book_write.specs.Laid.{text_of}
use Rattle.book_write.specs.Parts.{turn_words}
use Rattle.book_write.proofs.turns.push_turns.Given as goal

abbrev pub invariant-loop-turn : goal.invariant-loop-turn
invariant-loop-turn l = l.text.items ≡ l.initial.text.items ++ text_of (map (turn_words l.kinds) (take l.turn-index l.turns))
