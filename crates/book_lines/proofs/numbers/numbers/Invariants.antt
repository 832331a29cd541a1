use Rattle.std.proofs.Common.{take}
use Rattle.book_lines.specs.Lines.{texts}
use Rattle.book_lines.proofs.numbers.numbers.Given as goal
use Rattle.std.specs.List.{AllZip}
use Rattle.book_lines.specs.Values.{Level, IsNumberAt}

-- the items so far spell the values
abbrev pub invariant-loop-item : goal.invariant-loop-item
invariant-loop-item l = AllZip (IsNumberAt Level.Numbers) (texts (take l.item-index l.items)) l.values.items
