use Rattle.std.proofs.Common.{◌<◌, ℕ}
use Rattle.life_tiles.specs.Spans.{IsAwake}
use Rattle.life_tiles.proofs.waking.wake_all.Given as goal

abbrev pub invariant-loop-index : goal.invariant-loop-index
invariant-loop-index l = (i row : ℕ) → i < l.index → row < 64 → IsAwake l.spans i row
