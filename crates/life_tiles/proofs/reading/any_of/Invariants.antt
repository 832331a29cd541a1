use Rattle.std.proofs.Common.{◌≡◌, ◌<◌, ◌≤◌, ℕ, true, slice_index}
use Rattle.life_kernel.specs.Rows.{test}
use Rattle.life_tiles.proofs.reading.any_of.Given as goal

abbrev pub invariant-loop-at : goal.invariant-loop-at
invariant-loop-at l = record {
  all : (j k : ℕ) → l.from ≤ j → j < l.at → test (slice_index l.words j) k ≡ true → test l.any k ≡ true;
  some : (k : ℕ) → test l.any k ≡ true → (j : ℕ) × (l.from ≤ j) × (j < l.to) × (test (slice_index l.words j) k ≡ true);
}
