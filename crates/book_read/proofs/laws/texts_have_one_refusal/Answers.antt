use Rattle.book_read.proofs.laws.texts_have_one_refusal.Goals as goal
use Rattle.book_read.proofs.OneRefusal.{one_refusal}

pub returns : goal.returns
returns c = one_refusal (record { one = c.lines_state_one_thing.ensures; one_fault = c.lines_have_one_fault.ensures; no_fault = c.stating_lines_have_no_fault.ensures })
