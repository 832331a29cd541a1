-- When all items are written, `!` alone is to come.
use Rattle.std.proofs.Common.{◌∙◌, sym, ap, ◌++◌, List, []}
use Rattle.std.proofs.lemmas.List.{drop_all, append-nil}
use Rattle.std.specs.String.{string_bytes}
use Rattle.rle_items.specs.declared.item.Item.{Item}
use Rattle.life_rle.specs.Written.{folded, pieces}
use Rattle.life_rle.proofs.lines.push_items.Goals as goal

pub returns : goal.returns
returns c =
    let no_item_left = ap (λ (is : List Item). string_bytes c.loop-item.text ++ folded c.loop-item.column (pieces is)) (drop_all c.loop-item.item-index c.args.items.now c.loop-item-test.false) in
    sym (c.loop-item.invariant ∙ no_item_left ∙ c.in_ok-push_piece.ensures [] ∙ append-nil (string_bytes c.push_piece-2.new.text))
