use Rattle.life_gliders.specs.GliderLaws.{one_salvo_glider}
use Rattle.life_gliders.proofs.laws.salvo_gliders_differ.Goals as goal

pub returns : goal.returns
returns c = one_salvo_glider
