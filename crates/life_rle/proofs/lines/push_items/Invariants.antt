-- What is written so far and what the pieces to come fold to is the whole.
use Rattle.std.proofs.Common.{◌≡◌, ◌++◌, drop}
use Rattle.std.specs.String.{string_bytes}
use Rattle.life_rle.specs.Written.{folded, pieces}
use Rattle.life_rle.proofs.lines.push_items.Given as goal

abbrev pub invariant-loop-item : goal.invariant-loop-item
invariant-loop-item l = (string_bytes l.initial.text ++ folded 0 (pieces l.items)) ≡ (string_bytes l.text ++ folded l.column (pieces (drop l.item-index l.items)))
