use Rattle.std.proofs.Common.{take}
use Rattle.book_lines.specs.Lines.{texts, HaveNoColon}
use Rattle.book_lines.proofs.items.have_no_colon.Given as goal

-- the items so far are no `:`
abbrev pub invariant-loop-item : goal.invariant-loop-item
invariant-loop-item l = HaveNoColon (texts (take l.item-index l.items))
