use Rattle.std.proofs.Common.{length}
use Rattle.life_rle.specs.Opened.{IsOpened}
use Rattle.life_rle.proofs.start.skip_passed_over.Given as goal

abbrev pub invariant-loop-line : goal.invariant-loop-line
invariant-loop-line l = IsOpened l.text l.rest l.place_line l.number

abbrev pub decreases-loop-line : goal.decreases-loop-line
decreases-loop-line l = length l.rest
