use Rattle.std.proofs.Common.{length}
use Rattle.life_io.specs.Taken.{GainsUpTo}
use Rattle.life_io.proofs.writing.write_piece.Given as goal

abbrev pub invariant-loop-rest : goal.invariant-loop-rest
invariant-loop-rest g l = GainsUpTo (g.W.Write.contents l.initial.sink) (g.W.Write.contents l.sink) l.bytes l.rest

abbrev pub decreases-loop-rest : goal.decreases-loop-rest
decreases-loop-rest g l = length l.rest
