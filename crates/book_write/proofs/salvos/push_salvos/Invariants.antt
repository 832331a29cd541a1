-- The lines before the index are written.
use Rattle.std.proofs.Common.{take}
use Rattle.std.specs.List.{AllZip}
use Rattle.book_write.specs.Laid.{AppendsLines}
use Rattle.book_write.specs.Parts.{IsSalvoLine}
use Rattle.book_write.proofs.salvos.push_salvos.Given as goal

abbrev pub invariant-loop-salvo : goal.invariant-loop-salvo
invariant-loop-salvo l = AppendsLines l.initial.text.items l.text.items (AllZip IsSalvoLine (take l.salvo-index l.salvos))
