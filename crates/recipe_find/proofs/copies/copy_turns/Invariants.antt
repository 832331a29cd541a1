use Rattle.std.proofs.Common.{◌≡◌, take}
use Rattle.recipe_turn.specs.Checked.{raws}
use Rattle.recipe_find.proofs.copies.copy_turns.Given as goal

-- those so far are copied
abbrev pub invariant-loop-turn : goal.invariant-loop-turn
invariant-loop-turn l = l.copies.items ≡ raws (take l.turn-index l.turns)
