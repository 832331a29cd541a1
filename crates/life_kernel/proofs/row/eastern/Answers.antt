use Rattle.life_kernel.specs.BitLaws.{east_word}
use Rattle.life_kernel.proofs.row.eastern.Goals as goal

pub returns : goal.returns
returns c end k h = east_word c.args.here c.args.east end k c.ranges.here.fits h
