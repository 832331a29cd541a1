use Rattle.std.proofs.Common.{arith}
use Rattle.life_tiles.proofs.Rowed.{next_along, fills_one}
use Rattle.life_tiles.proofs.tile_step.fill_row.Goals as goal

pub returns : goal.returns
returns c =
    fills_one c.args.rows.now c.args.about.now c.args.next.now c.args.changes.now c.args.down c.next_word-word.result c.requires.down (let room = c.requires.about.room in omega arith) (omega (arith, c.told-changes))
    (next_along _ _ _ _ _ _ _ c.row_of.ensures c.row_of-2.ensures c.row_of-3.ensures c.next_word-word.ensures)
