use Rattle.std.proofs.Common.{arith}
use Rattle.std.proofs.lemmas.Int.{ints}
use Rattle.life_cells.proofs.Around.{fits_near}
use Rattle.life_cells.proofs.near.push_row.Goals as goal

pub push_moved-requires : goal.push_moved-requires
push_moved-requires c = fits_near _ _ _ c.requires.in_range (omega (arith, ints)) (omega (arith, ints)) (omega (arith, ints)) (omega (arith, ints))

pub push_moved-requires-2 : goal.push_moved-requires-2
push_moved-requires-2 c = fits_near _ _ _ c.requires.in_range (omega (arith, ints)) (omega (arith, ints)) (omega (arith, ints)) (omega (arith, ints))

pub push_moved-requires-3 : goal.push_moved-requires-3
push_moved-requires-3 c = fits_near _ _ _ c.requires.in_range (omega (arith, ints)) (omega (arith, ints)) (omega (arith, ints)) (omega (arith, ints))
