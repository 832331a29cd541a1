-- The lines before the index are written.
use Rattle.std.proofs.Common.{take}
use Rattle.std.specs.List.{AllZip}
use Rattle.book_write.specs.Laid.{AppendsLines}
use Rattle.book_write.specs.Parts.{IsKindLine}
use Rattle.book_write.proofs.kinds.push_kinds.Given as goal

abbrev pub invariant-loop-kind : goal.invariant-loop-kind
invariant-loop-kind l = AppendsLines l.initial.text.items l.text.items (AllZip IsKindLine (take l.kind-index l.kinds))
