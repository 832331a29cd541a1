use Rattle.std.proofs.Common.{◌≡◌, ◌⊎◌, ◌+◌, ◌<◌, ◌≤◌, ℕ, slice_index}
use Rattle.life_tiles.proofs.pruning.move_words.Given as goal

abbrev pub invariant-loop-down : goal.invariant-loop-down
invariant-loop-down l = record {
  moved : (down : ℕ) → down < l.down → slice_index l.words (l.to + down) ≡ slice_index l.initial.words (l.from + down);
  others : (j : ℕ) → (j < l.to) ⊎ (l.to + l.down ≤ j) → slice_index l.words j ≡ slice_index l.initial.words j;
}
