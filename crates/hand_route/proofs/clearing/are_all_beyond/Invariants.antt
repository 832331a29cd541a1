use Rattle.recipe_hit.specs.declared.frame.Hit.{Hit}
use Rattle.lane_clear.specs.Clear.{AreBeyond}
use Rattle.lane_clear.specs.Frames.{moved_frame}
use Rattle.hand_route.proofs.Clear.{HoldsSoFar}
use Rattle.hand_route.proofs.clearing.are_all_beyond.Given as goal

abbrev pub invariant-loop-hit : goal.invariant-loop-hit
invariant-loop-hit l = HoldsSoFar (λ (hit : Hit). AreBeyond l.settings (moved_frame l.place hit.frame).bounds) l.hits l.hit-index
