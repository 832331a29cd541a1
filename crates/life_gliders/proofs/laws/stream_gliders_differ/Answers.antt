use Rattle.life_gliders.specs.GliderLaws.{one_stream_glider}
use Rattle.life_gliders.proofs.laws.stream_gliders_differ.Goals as goal

pub returns : goal.returns
returns c = one_stream_glider
