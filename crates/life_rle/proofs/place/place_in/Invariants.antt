use Rattle.std.proofs.Common.{length}
use Rattle.life_cells.specs.declared.cell.Cell.{Cell}
use Rattle.life_rle.proofs.Placing.{IsPlaceOf}
use Rattle.life_rle.proofs.place.place_in.Given as goal

-- the words so far give no place
abbrev pub invariant-words : goal.invariant-words
invariant-words l = (place : Cell) → IsPlaceOf l.rest place → IsPlaceOf l.line place

abbrev pub decreases-words : goal.decreases-words
decreases-words l = length l.rest
