use Rattle.life_plane.specs.StillLaws.{still_union}
use Rattle.life_plane.proofs.still_planes_join.Goals as goal

pub returns : goal.returns
returns c = still_union
