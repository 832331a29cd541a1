use Rattle.book_lines.proofs.numbers.pair.Goals as goal
use Rattle.book_lines.proofs.Pieces.{pair_reads}

pub returns : goal.returns
returns c = pair_reads _ c.in_ok-x.x.now c.in_ok-x.y.now c.in_ok-x.ensures c.place.result c.place.ensures.place
