use Rattle.std.proofs.Common.{◌≡◌, ◌-◌, length}
use Rattle.hand_route.specs.Ways.{ground, IsKept}
use Rattle.hand_route.proofs.ways.HandWays.grow.Given as goal

abbrev pub invariant-places : goal.invariant-places
invariant-places l = IsKept (ground l.self-inside.salvos.now l.self-inside.built.now l.self-inside.found.room) l.self-inside.from l.self-inside.place l.self-inside.tried l.self-inside.found.cells l.self-inside.found.labels
    × ((l.self-inside.found ≡ l.initial.self-inside.found) × ((l.self-inside.salvos ≡ l.initial.self-inside.salvos) × ((l.self-inside.built ≡ l.initial.self-inside.built) × (l.self-inside.from ≡ l.initial.self-inside.from))))

abbrev pub decreases-places : goal.decreases-places
decreases-places l = length l.initial.self-inside.found.cells - l.self-inside.place
