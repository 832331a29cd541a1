use Rattle.std.proofs.Common.{List}
use Rattle.plan_facts.specs.Happenings.{Happening}
use Rattle.stream_time.specs.Laying.{AreStarted}
use Rattle.stream_time.proofs.Laid.{IsLaid}
use Rattle.stream_time.proofs.pattern.stream_cells.Given as goal

-- the turns of so many events are laid out, whatever turns and hits the events stand for
abbrev pub invariant-loop-event : goal.invariant-loop-event
invariant-loop-event l = (whole : List Happening) → AreStarted l.book l.events l.starts whole → IsLaid l.book l.events l.starts whole l.event-index l.started l.cells.items
