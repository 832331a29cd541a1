use Rattle.std.proofs.Common.{◌≡◌, take, map}
use Rattle.life_cells.specs.Moved.{moved}
use Rattle.find_turn.proofs.standing.are_moved.Given as goal

abbrev pub invariant-loop-place : goal.invariant-loop-place
invariant-loop-place l = take l.place l.to ≡ map (moved l.shift l.shift) (take l.place l.from)
