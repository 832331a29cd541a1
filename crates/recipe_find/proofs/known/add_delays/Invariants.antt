use Rattle.std.proofs.Common.{◌++◌, take, map}
use Rattle.recipe_turn.specs.Checked.{raws}
use Rattle.recipe_find.specs.Adding.{delays_of}
use Rattle.recipe_find.specs.Known.{HasJust}
use Rattle.recipe_find.proofs.known.add_delays.Given as goal

-- those of the turns so far are in the set
abbrev pub invariant-loop-turn : goal.invariant-loop-turn
invariant-loop-turn l = HasJust l.candidates.keys (l.initial.candidates.keys ++ map delays_of (raws (take l.turn-index l.turns)))
