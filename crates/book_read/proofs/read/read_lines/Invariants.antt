use Rattle.std.proofs.Common.{◌≡◌, ◌≤◌, ◌+◌, ℕ, List, length, ◌++◌}
use Rattle.book_read.proofs.read.read_lines.Given as goal
use Rattle.std.specs.Str.Lines.{lines}
use Rattle.book_read.specs.Stated.{nothing_stated}
use Rattle.book_read.specs.Reading.{AreFine}
use Rattle.book_read.specs.Drafted.{stated_of, IsKept}

-- the lines so far are fine

abbrev pub invariant-loop-rest : goal.invariant-loop-rest
invariant-loop-rest l = (front : List (List ℕ)) × ((lines l.body ≡ front ++ lines l.rest) × (AreFine nothing_stated front (stated_of l.draft)
    × (IsKept l.draft × ((l.number ≡ l.before + length front) × (l.number + length l.rest ≤ l.before + length l.body)))))

abbrev pub decreases-loop-rest : goal.decreases-loop-rest
decreases-loop-rest l = length l.rest
