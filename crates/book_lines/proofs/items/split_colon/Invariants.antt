use Rattle.std.proofs.Common.{take}
use Rattle.book_lines.specs.Lines.{texts, HaveNoColon}
use Rattle.book_lines.proofs.items.split_colon.Given as goal

-- the items so far are no `:`
abbrev pub invariant-loop-index : goal.invariant-loop-index
invariant-loop-index l = HaveNoColon (texts (take l.index l.items))
