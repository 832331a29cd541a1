use Rattle.life_kernel.proofs.Vectors.{lanes_are_next}
use Rattle.life_kernel.proofs.lanes.strips_2.Goals as goal

pub returns : goal.returns
returns c = lanes_are_next 2 c.args.above c.args.here c.args.below c.args.west c.args.east c.fits-above.0 c.fits-here.0 c.fits-below.0 c.fits-west.0 c.fits-east.0 c.fits-above.1 c.fits-here.1 c.fits-below.1
