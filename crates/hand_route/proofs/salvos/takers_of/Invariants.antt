use Rattle.std.proofs.Common.{ℕ}
use Rattle.hand_route.specs.Carriers.{TakesAt}
use Rattle.hand_route.proofs.Sorting.{AreSoFar}
use Rattle.hand_route.proofs.salvos.takers_of.Given as goal

abbrev pub invariant-loop-place : goal.invariant-loop-place
invariant-loop-place l = AreSoFar (λ (number : ℕ). number) TakesAt l.salvos l.place l.takers.items
