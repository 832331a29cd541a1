use Rattle.life_tiles.proofs.Linked.{links_begin, links_more}
use Rattle.life_tiles.proofs.linking.link.Goals as goal

pub loop-direction-init : goal.loop-direction-init
loop-direction-init c = links_begin c.args.places.now.keys c.args.beside.now c.args.index

pub loop-direction-preserved : goal.loop-direction-preserved
loop-direction-preserved c = links_more c.args.places.now.keys c.args.beside.now c.loop-direction.beside c.link_at.new.beside c.args.index c.loop-direction.direction c.loop-direction-test.true c.loop-direction.invariant c.link_at.ensures
