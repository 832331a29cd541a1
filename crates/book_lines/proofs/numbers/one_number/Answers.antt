use Rattle.book_lines.proofs.numbers.one_number.Goals as goal
use Rattle.book_lines.proofs.Pieces.{one_reads}

pub returns : goal.returns
returns c = one_reads _ c.in_ok-only.field-0.now c.in_ok-only.ensures c.number.result c.number.ensures.number
