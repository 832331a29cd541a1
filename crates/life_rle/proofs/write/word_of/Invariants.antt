-- The items before the index are written.
use Rattle.rle_items.specs.Words.{item_text}
use Rattle.std.proofs.Common.{◌≡◌, map, take}
use Rattle.std.specs.List.{flat_map}
use Rattle.std.specs.String.{string_bytes}
use Rattle.life_rle.proofs.write.word_of.Given as goal

abbrev pub invariant-loop-item : goal.invariant-loop-item
invariant-loop-item l = string_bytes l.word ≡ flat_map (λ piece. piece) (map item_text (take l.item-index l.item-items))
