use Rattle.std.proofs.Common.{◌≡◌, pos, take}
use Rattle.life_cells.specs.Listed.{listed}
use Rattle.recipe_turn.specs.Turn.{gliders}
use Rattle.recipe_turn.proofs.own_gliders.starting_gliders.Given as goal

-- the cells so far are the gliders so far
abbrev pub invariant-loop-delay : goal.invariant-loop-delay
invariant-loop-delay l = listed l.cells.items ≡ gliders l.settings (take l.delay-index l.delays) (pos 0)
