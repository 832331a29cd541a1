use Rattle.std.proofs.Common.{◌≡◌, take}
use Rattle.event_times.specs.Clock.{ends_of}
use Rattle.event_times.proofs.clock.Clock.hit_ends.Given as goal

-- the ends of the hits so far
abbrev pub invariant-loop-hit : goal.invariant-loop-hit
invariant-loop-hit l = l.ends.items ≡ ends_of (take l.hit-index l.self.hits.items)
