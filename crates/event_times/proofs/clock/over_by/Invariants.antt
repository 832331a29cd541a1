use Rattle.std.proofs.Common.{take}
use Rattle.event_times.specs.Clock.{AreOver}
use Rattle.event_times.proofs.clock.over_by.Given as goal

-- the hits before this place are over
abbrev pub invariant-loop-place : goal.invariant-loop-place
invariant-loop-place l = AreOver l.fn.time (take l.place l.hits)
