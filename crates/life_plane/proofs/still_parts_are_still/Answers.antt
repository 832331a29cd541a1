use Rattle.life_plane.specs.StillLaws.{first_still, second_still}
use Rattle.life_plane.proofs.still_parts_are_still.Goals as goal

pub returns : goal.returns
returns c s t p h = (first_still s t p h, second_still s t p h)
