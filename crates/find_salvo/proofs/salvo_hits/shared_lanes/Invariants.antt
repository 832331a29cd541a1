use Rattle.std.proofs.Common.{◌≡◌, ◌≤◌, length, take}
use Rattle.find_salvo.specs.Kept.{lanes_of}
use Rattle.find_salvo.proofs.salvo_hits.shared_lanes.Given as goal

abbrev pub invariant-loop-place : goal.invariant-loop-place
invariant-loop-place l = record {
  within : l.place ≤ length l.lanes;
  shared : take l.place (lanes_of l.hits) ≡ take l.place l.lanes;
}
