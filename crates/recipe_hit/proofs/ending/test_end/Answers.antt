use Rattle.std.proofs.Common.{refl}
use Rattle.life_tiles.specs.CourseLaws.{first_different}
use Rattle.recipe_hit.proofs.ending.test_end.Goals as goal

pub returns-in-Some-clause-refusal : goal.returns-in-Some-clause-refusal
returns-in-Some-clause-refusal c = first_different _ _ _ _ c.in-Some.cell refl c.in_ok-stated.ensures c.in-Some.ensures.some
