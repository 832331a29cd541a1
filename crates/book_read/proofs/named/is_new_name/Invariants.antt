use Rattle.book_read.proofs.Searches.{NoneBelow}
use Rattle.book_read.proofs.named.is_new_name.Given as goal

-- none of the entries so far has the name
abbrev pub invariant-loop-entry : goal.invariant-loop-entry
invariant-loop-entry g l = NoneBelow g.T.Named.name_of l.entries l.name l.entry-index
