use Rattle.std.proofs.Common.{◌≤◌, length}
use Rattle.indexmap.specs.IndexMap.{get}
use Rattle.elbow_graph.specs.Made.{IsMade}
use Rattle.elbow_graph.specs.SameKeys.{key_eq}
use Rattle.elbow_graph.proofs.places.Places.of.Given as goal

abbrev pub invariant-places : goal.invariant-places
invariant-places l = (l.place ≤ length l.exits.items) × IsMade l.table l.exits.items (get key_eq l.firsts) l.nexts.items l.place

abbrev pub decreases-places : goal.decreases-places
decreases-places l = l.place
