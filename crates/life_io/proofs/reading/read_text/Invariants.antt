use Rattle.std.proofs.Common.{◌≡◌, ◌+◌, vec_len}
use Rattle.life_io.specs.Taken.{HasTaken}
use Rattle.life_io.proofs.reading.read_text.Given as goal

abbrev pub invariant-loop-count : goal.invariant-loop-count
invariant-loop-count g l =
    (vec_len l.into + l.left ≡ vec_len l.initial.into + l.limit)
    × HasTaken (g.S.Read.remaining l.initial.source) (g.S.Read.remaining l.source) l.initial.into.items l.into.items

abbrev pub decreases-loop-count : goal.decreases-loop-count
decreases-loop-count g l = l.left
