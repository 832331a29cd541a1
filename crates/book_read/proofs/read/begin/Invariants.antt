use Rattle.std.proofs.Common.{◌≡◌, ◌≤◌, ◌+◌, ℕ, List, length, ◌++◌}
use Rattle.book_read.proofs.read.begin.Given as goal
use Rattle.std.specs.List.{AllByRecursion}
use Rattle.std.specs.Str.Lines.{lines}
use Rattle.text_lines.specs.Blanks.{IsPassedOver}

-- the lines so far are passed over
abbrev pub invariant-loop-rest : goal.invariant-loop-rest
invariant-loop-rest l = (head : List (List ℕ)) × ((lines l.text ≡ head ++ lines l.rest) × (AllByRecursion IsPassedOver head × ((l.number ≡ length head) × (l.number + length l.rest ≤ length l.text))))

abbrev pub decreases-loop-rest : goal.decreases-loop-rest
decreases-loop-rest l = length l.rest
