use Rattle.life_tiles.proofs.Filled.{FilledTo}
use Rattle.life_tiles.proofs.stepping.fill_all.Given as goal

abbrev pub invariant-tiles : goal.invariant-tiles
invariant-tiles l = FilledTo l.places.keys l.rows l.initial.next l.next l.initial.awake l.awake l.initial.waking l.waking l.index
