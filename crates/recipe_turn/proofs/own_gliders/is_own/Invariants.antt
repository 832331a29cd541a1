use Rattle.std.proofs.Common.{◌≡◌, pos, drop}
use Rattle.recipe_turn.specs.Turn.{gliders}
use Rattle.recipe_turn.proofs.own_gliders.is_own.Given as goal

-- the gliders so far had not the cell
abbrev pub invariant-loop-delay : goal.invariant-loop-delay
invariant-loop-delay l = gliders l.settings l.delays (pos l.t) l.cell.x l.cell.y ≡ gliders l.settings (drop l.delay-index l.delays) (pos l.t) l.cell.x l.cell.y
