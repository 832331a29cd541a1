use Rattle.std.proofs.Common.{◌≡◌, take}
use Rattle.life_plane.specs.Plane.{union}
use Rattle.life_cells.specs.Listed.{listed}
use Rattle.recipe_turn.specs.Turn.{gliders}
use Rattle.stream_time.proofs.gliders.push_gliders.Given as goal

-- the gliders so far are appended
abbrev pub invariant-loop-delay : goal.invariant-loop-delay
invariant-loop-delay l = listed l.cells.items ≡ union (listed l.initial.cells.items) (gliders l.settings (take l.delay-index l.delays) l.fn.time)
