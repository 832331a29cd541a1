use Rattle.std.proofs.Common.{sym, subst, arith}
use Rattle.life_cells.specs.Cells.{IsRising}
use Rattle.life_sample.proofs.Cells.{blocks_rise}
use Rattle.life_sample.proofs.blocks.blocks.Goals as goal

-- src/blocks.rt:37:8
pub from_rising-requires : goal.from_rising-requires
from_rising-requires c = subst IsRising (sym c.loop-place.invariant) (blocks_rise c.args.gap c.loop-place.place (omega arith))
