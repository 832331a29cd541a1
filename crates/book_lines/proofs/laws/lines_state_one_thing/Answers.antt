use Rattle.book_lines.proofs.laws.lines_state_one_thing.Goals as goal
use Rattle.book_lines.proofs.OneStatement.{one_statement}

pub returns : goal.returns
returns c = one_statement (record { meaning = c.words_mean_one_plane.ensures; refusal = c.words_have_one_refusal.ensures; none = c.fine_words_have_no_refusal.ensures })
