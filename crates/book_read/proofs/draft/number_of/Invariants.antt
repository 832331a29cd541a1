use Rattle.book_read.proofs.draft.number_of.Given as goal
use Rattle.book_parts.specs.declared.kind.RawKind.{RawKind}
use Rattle.book_read.proofs.Searches.{NoneBelow}

-- none of the kinds so far has the name
abbrev pub invariant-loop-index : goal.invariant-loop-index
invariant-loop-index l = NoneBelow (λ (kind : RawKind). kind.name) l.kinds l.name l.index
