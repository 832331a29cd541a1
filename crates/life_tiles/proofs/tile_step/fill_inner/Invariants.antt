use Rattle.life_tiles.specs.Rows.{FillsRows}
use Rattle.life_tiles.proofs.tile_step.fill_inner.Given as goal

abbrev pub invariant-loop-down : goal.invariant-loop-down
invariant-loop-down l = FillsRows l.rows l.about l.initial.next l.next l.initial.changes l.changes l.fn.span.from l.down
