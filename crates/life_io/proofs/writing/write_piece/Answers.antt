use Rattle.std.proofs.Common.{arith}
use Rattle.std.proofs.lemmas.Grind.{common_steps}
use Rattle.life_io.proofs.Pieces.{gains_more}
use Rattle.life_io.proofs.writing.write_piece.Goals as goal

pub loop-rest-preserved : goal.loop-rest-preserved
loop-rest-preserved g c =
    gains_more c.in-Ok.count _ c.loop-rest.invariant c.in-Ok.ensures.bytes (grind (arith, common_steps))
