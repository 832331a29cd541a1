use Rattle.std.proofs.Common.{◌≡◌, ◌++◌, length}
use Rattle.life_rle.specs.Comments.{blanked}
use Rattle.life_rle.proofs.Blanking.{seen}
use Rattle.life_rle.proofs.comments.without_comments.Given as goal

-- what was seen so far, and what will be of the rest
abbrev pub invariant-loop-byte : goal.invariant-loop-byte
invariant-loop-byte l = l.seen.items ++ seen l.starts_line l.in_comment l.rest ≡ blanked l.text

abbrev pub decreases-loop-byte : goal.decreases-loop-byte
decreases-loop-byte l = length l.rest
