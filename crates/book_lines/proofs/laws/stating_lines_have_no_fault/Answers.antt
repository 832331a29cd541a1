use Rattle.book_lines.proofs.laws.stating_lines_have_no_fault.Goals as goal
use Rattle.book_lines.proofs.OneFault.{fault_none}

pub returns : goal.returns
returns c = fault_none
