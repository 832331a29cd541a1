use Rattle.std.proofs.Common.{◌↔◌, ℕ, ◌≤◌, take}
use Rattle.std.specs.declared.option.Option.TheVariants.{Some}
use Rattle.event_times.specs.Least.{SparesThese}
use Rattle.event_times.proofs.least.sparing_all.Given as goal

-- the first generation in which it spares the hits so far
abbrev pub invariant-loop-hit : goal.invariant-loop-hit
invariant-loop-hit l = (thrown : ℕ) → ((l.fn.from ≤ thrown) × SparesThese thrown (Some l.glider) (take l.hit-index l.hits)) ↔ l.first ≤ thrown
