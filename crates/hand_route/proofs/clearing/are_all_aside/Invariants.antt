use Rattle.life_plane.specs.Strips.{Each}
use Rattle.life_cells.specs.Cells.{alive}
use Rattle.recipe_hit.specs.declared.frame.Hit.{Hit}
use Rattle.lane_clear.specs.Clear.{IsAside}
use Rattle.lane_clear.specs.Frames.{moved_frame}
use Rattle.hand_route.proofs.Clear.{HoldsSoFar}
use Rattle.hand_route.proofs.clearing.are_all_aside.Given as goal

abbrev pub invariant-loop-hit : goal.invariant-loop-hit
invariant-loop-hit l = HoldsSoFar (λ (hit : Hit). Each (IsAside (moved_frame l.place hit.frame)) (alive l.built)) l.hits l.hit-index
