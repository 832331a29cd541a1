-- The parts make up the text, and the law of the text says that it reads back.
use Rattle.std.proofs.Common.{◌≡◌, ◌∙◌, sym, ap, subst, ℤ, w64, to_z, of_z, arith, List, ◌++◌, lit<}
use Rattle.std.proofs.lemmas.Int.{ints}
use Rattle.std.specs.Option.{option_copied}
use Rattle.std.specs.String.{string_bytes}
use Rattle.rle_items.specs.declared.item.Item.{Item}
use Rattle.life_rle.specs.Written.{folded, pieces}
use Rattle.life_plane.specs.Plane.{Plane}
use Rattle.life_cells.specs.declared.cell.Cell.{Cell}
use Rattle.life_cells.specs.Cells.{alive}
use Rattle.life_cells.specs.Listed.{listed}
use Rattle.life_cells.specs.Boxes.{IsInRange}
use Rattle.rle_items.specs.Items.{AreCells}
use Rattle.life_rle.specs.Drawn.{IsTidyFrom}
use Rattle.life_rle.proofs.Framing.{frame_behind}
use Rattle.life_rle.proofs.Whole.{alive_listed, written}
use Rattle.life_rle.proofs.write.text_of.Goals as goal

pub items_of-requires-clause-range : goal.items_of-requires-clause-range
items_of-requires-clause-range c = subst (λ (s : Plane). IsInRange 288230376151711744 s) (alive_listed c.args.cells.now c.cells.result.now c.cells.ensures.order) c.requires.range

pub items_of-requires-clause-behind : goal.items_of-requires-clause-behind
items_of-requires-clause-behind c =
    let f = c.frame_of-frame.ensures.small in
    let a = f.left in let b = f.x_high in let d = f.top in let e = f.y_high in
    let x : to_z w64 (of_z w64 c.frame_of-frame.result.place.x) ≡ c.frame_of-frame.result.place.x = omega (arith, ints) in
    let y : to_z w64 (of_z w64 c.frame_of-frame.result.place.y) ≡ c.frame_of-frame.result.place.y = omega (arith, ints) in
    rw (x, y, sym (alive_listed c.args.cells.now c.cells.result.now c.cells.ensures.order)) (frame_behind (alive c.args.cells.now) c.frame_of-frame.result.place _ _ c.frame_of-frame.ensures.frame)

pub returns : goal.returns
returns c =
    let f = c.frame_of-frame.ensures.small in
    let a = f.left in let b = f.x_high in let d = f.top in let e = f.y_high in
    let place = c.frame_of-frame.result.place in
    let x : to_z w64 (of_z w64 place.x) ≡ place.x = omega (arith, ints) in
    let y : to_z w64 (of_z w64 place.y) ≡ place.y = omega (arith, ints) in
    let items = c.in_ok-items.items.items in
    let cells = subst (λ (p : Cell). AreCells p items (listed c.cells.result.now)) (λ i. record { y = y i; x = x i }) c.in_ok-items.ensures.cells in
    let tidy = subst (λ (t : ℤ). IsTidyFrom t c.cells.result.now items) y c.in_ok-items.ensures.tidy in
    let body = c.in_ok-push_items.ensures ∙ ap (λ (is : List Item). string_bytes c.push_head.new.text ++ folded 0 (pieces is)) c.deref.ensures.value in
    let ended = c.in_ok-push.ensures.bytes ∙ ap (λ t. string_bytes c.push_items.new.text ++ t) (c.in_ok-push.ensures.ascii (lit< tt)) in
    let w = written (alive c.args.cells.now) (option_copied c.args.note) c.cells.result.now place _ _ items _ _ _ _ (alive_listed c.args.cells.now c.cells.result.now c.cells.ensures.order) c.cells.ensures.rising c.requires.note
    c.frame_of-frame.ensures.frame f cells tidy c.in_ok-items.ensures.small c.new-text.ensures.bytes c.in_ok-push_head.ensures body ended in
    record { ok = w.canonical; read_back = w.means }
