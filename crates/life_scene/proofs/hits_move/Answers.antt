use Rattle.life_scene.specs.MovedHitLaws.{hit_moved}
use Rattle.life_scene.proofs.hits_move.Goals as goal

pub returns : goal.returns
returns c = hit_moved
