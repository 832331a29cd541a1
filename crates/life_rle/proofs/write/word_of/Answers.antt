-- When all items are written, `!` ends the word.
use Rattle.std.proofs.Common.{◌∙◌, sym, ap, subst, pos, List, ◌++◌, ◌∷◌, [], map, lit<}
use Rattle.std.proofs.lemmas.List.{take_all}
use Rattle.std.specs.List.{flat_map}
use Rattle.std.specs.String.{string_bytes}
use Rattle.life_plane.specs.Plane.{Plane}
use Rattle.rle_items.specs.Words.{item_text}
use Rattle.life_cells.specs.Cells.{alive}
use Rattle.life_cells.specs.Boxes.{IsInRange}
use Rattle.rle_items.specs.declared.item.Item.{Item}
use Rattle.life_rle.specs.Drawn.{IsBehind}
use Rattle.life_rle.specs.SpellingLaws.{word_whole}
use Rattle.life_rle.proofs.Whole.{alive_listed, behind_origin, word_written}
use Rattle.life_rle.proofs.write.word_of.Goals as goal

pub items_of-requires-clause-range : goal.items_of-requires-clause-range
items_of-requires-clause-range c = subst (λ (s : Plane). IsInRange 288230376151711744 s) (alive_listed c.args.cells.now c.cells.result.now c.cells.ensures.order) c.requires.range

pub items_of-requires-clause-behind : goal.items_of-requires-clause-behind
items_of-requires-clause-behind c =
    subst (λ (s : Plane). IsBehind (pos 0) (pos 0) s) (alive_listed c.args.cells.now c.cells.result.now c.cells.ensures.order) (behind_origin (alive c.args.cells.now) c.requires.quadrant)

pub returns : goal.returns
returns c =
    let items = c.in_ok-items.items.items in
    let text = λ (is : List Item). flat_map (λ piece. piece) (map item_text is) in
    let done = c.loop-item.invariant ∙ ap text (take_all c.loop-item.item-index c.deref-item-items.result.now c.loop-item-test.false ∙ c.deref-item-items.ensures.value) in
    let whole = c.in_ok-push.ensures.bytes ∙ ap (λ t. string_bytes c.loop-item.word ++ t) (c.in_ok-push.ensures.ascii (lit< tt)) ∙ ap (λ t. t ++ (33 ∷ [])) done ∙ sym (word_whole items) in
    let w = word_written (alive c.args.cells.now) c.cells.result.now items _ (alive_listed c.args.cells.now c.cells.result.now c.cells.ensures.order) c.in_ok-items.ensures.cells c.in_ok-items.ensures.tidy c.in_ok-items.ensures.small whole in
    record { ok = w.canonical; read_back = w.means }
