use Rattle.stream_time.proofs.EventsAdded.{IsSoFar}
use Rattle.stream_time.proofs.scheduling.schedule.Given as goal

-- so many events are in time
abbrev pub invariant-loop-event : goal.invariant-loop-event
invariant-loop-event l = IsSoFar l.book l.plan.events.items l.event-index l.clock
