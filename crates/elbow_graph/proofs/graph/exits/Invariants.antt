use Rattle.std.proofs.Common.{◌≡◌, take}
use Rattle.recipe_turn.specs.Checked.{raws}
use Rattle.elbow_graph.specs.Exits.{exits_of}
use Rattle.elbow_graph.proofs.graph.exits.Given as goal

abbrev pub invariant-loop-turn : goal.invariant-loop-turn
invariant-loop-turn l = l.exits.items ≡ exits_of (raws (take l.turn-index l.turns))
