use Rattle.std.proofs.Common.{◌≡◌, ◌⊎◌, ◌<◌, ◌≤◌, ℕ, slice_index}
use Rattle.life_tiles.proofs.pruning.clear_words.Given as goal

abbrev pub invariant-loop-at : goal.invariant-loop-at
invariant-loop-at l = record {
  cleared : (j : ℕ) → l.from ≤ j → j < l.at → slice_index l.words j ≡ 0;
  others : (j : ℕ) → (j < l.from) ⊎ (l.at ≤ j) → slice_index l.words j ≡ slice_index l.initial.words j;
}
