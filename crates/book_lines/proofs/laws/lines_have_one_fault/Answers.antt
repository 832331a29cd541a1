use Rattle.book_lines.proofs.laws.lines_have_one_fault.Goals as goal
use Rattle.book_lines.proofs.OneFault.{fault_once}

pub returns : goal.returns
returns c = fault_once
