use Rattle.std.proofs.Common.{take, map}
use Rattle.book_parts.specs.Proper.{IsNoneOf}
use Rattle.book_parts.specs.declared.turn.RawTurn.{RawTurn}
use Rattle.recipe_turn.specs.Checked.{raws}
use Rattle.recipe_find.proofs.names.is_new_to_turns.Given as goal

-- none of the turns so far has the name
abbrev pub invariant-loop-turn : goal.invariant-loop-turn
invariant-loop-turn l = IsNoneOf (map (λ (turn : RawTurn). turn.name) (raws (take l.turn-index l.turns))) l.name
