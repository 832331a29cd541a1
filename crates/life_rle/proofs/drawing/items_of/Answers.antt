-- Each turn draws one cell: where the pen is at it the run goes on, and else the run and a gap are appended.
use Rattle.std.proofs.Common.{◌≡◌, ℕ, ◌≤◌, ◌∙◌, ap, subst, refl, ◌^◌, FitsSigned, rules, neg_ℤ, pos, ◌≤ℤ◌, ◌+ℤ◌, ◌<◌, ◌++◌, ℤ, length, Bool, true, false, not, List, w64, to_z, of_z, arith, take, get_or}
use Rattle.std.proofs.lemmas.Int.{ints}
use Rattle.std.proofs.lemmas.List.{take_all}
use Rattle.life_cells.specs.declared.cell.Cell.{Cell}
use Rattle.life_cells.specs.Cells.{cell}
use Rattle.life_cells.specs.Listed.{listed}
use Rattle.rle_items.specs.declared.item.Item.{Item}
use Rattle.rle_items.specs.declared.item.Tag.TheVariants.{Alive}
use Rattle.rle_items.specs.Items.{AreCells}
use Rattle.life_rle.specs.Drawn.{some_of, IsBehind, IsTidyFrom}
use Rattle.life_rle.proofs.drawing.items_of.Goals as goal
use Rattle.life_rle.proofs.drawing.items_of.Goals.{then-ne+in_ok-push_some+in_ok-push_gap, else-ne}
use Rattle.life_cells.specs.SameLaws.{same_fields_is}
use Rattle.life_rle.proofs.Growing.{IsDrawn, IsReady, drawn_none, next_all, next_at, next_step, rising_step, drawn_step, ready_here, ready_gap, ahead_by_tests, drawn_tidy, drawn_small}

pub loop-cell-init : goal.loop-cell-init
loop-cell-init c =
    let left_fits = c.ranges.left in let top_fits = c.ranges.top in
    let left = to_z w64 (of_z w64 c.args.left) in
    let top = to_z w64 (of_z w64 c.args.top) in
    let b = c.requires.behind in
    let behind : IsBehind left top (listed c.args.cells.now) = record { x = λ x y h. let a = b.x x y h in omega (arith, ints); y = λ x y h. let a = b.y x y h in omega (arith, ints) } in
    record {
      drawn = rw (c.new-items.ensures.items, c.new-pen.ensures) (drawn_none left top);
      next = rw c.new-pen.ensures (next_all left top c.args.cells.now behind c.requires.range);
      rising = c.requires.rising;
    }

pub push_gap-requires-clause-next : goal.push_gap-requires-clause-next
push_gap-requires-clause-next c = next_at _ c.loop-cell.pen _ c.args.cells.now c.loop-cell.cell-index c.loop-cell-test.true c.loop-cell.invariant.next

not_false : (b : Bool) → true ≡ not b → b ≡ false
not_false true h = cc
not_false false h = refl

not_true : (b : Bool) → false ≡ not b → b ≡ true
not_true true h = refl
not_true false h = cc

pub push_gap-requires-clause-apart : goal.push_gap-requires-clause-apart
push_gap-requires-clause-apart c =
    ahead_by_tests _ c.loop-cell.pen _ (next_at _ c.loop-cell.pen _ c.args.cells.now c.loop-cell.cell-index c.loop-cell-test.true c.loop-cell.invariant.next) (not_false _ c.if-ne.ensures)

pub overflow_add-cell : goal.overflow_add-cell
overflow_add-cell c =
    let n = next_at _ c.loop-cell.pen (record { y = pos 0; x = pos 0 }) c.args.cells.now c.loop-cell.cell-index c.loop-cell-test.true c.loop-cell.invariant.next in
    let high = n.x_high in let low = n.right in let left_low = c.requires.left in let left_fits = c.ranges.left in
    omega (arith, ints)

pub loop-cell-preserved : goal.loop-cell-preserved
loop-cell-preserved c =
    let d : Cell = record { y = pos 0; x = pos 0 } in
    let k = c.loop-cell.cell-index in
    let here = get_or c.args.cells.now k d in
    let left = to_z w64 (of_z w64 c.args.left) in
    let top = to_z w64 (of_z w64 c.args.top) in
    let left_fits = c.ranges.left in let top_fits = c.ranges.top in let left_low = c.requires.left in let top_low = c.requires.top in
    let low : neg_ℤ (pos (2 ^ 58)) ≤ℤ left = omega (arith, ints) in
    let low_top : neg_ℤ (pos (2 ^ 58)) ≤ℤ top = omega (arith, ints) in
    let inside : k < length c.args.cells.now = c.loop-cell-test.true in
    let n = next_at left c.loop-cell.pen d c.args.cells.now k inside c.loop-cell.invariant.next in
    let n_high = n.x_high in let n_low = n.right in
    let next_pen : c.new-pen-in-loop-cell.result ≡ cell (here.x +ℤ pos 1) here.y =
    let fits : FitsSigned w64 here.y = search rules in
    let y : to_z w64 (of_z w64 here.y) ≡ here.y = omega (arith, ints) in
    let x : to_z w64 (of_z w64 (to_z w64 (of_z w64 here.x) +ℤ pos 1)) ≡ here.x +ℤ pos 1 = omega (arith, ints) in
    c.new-pen-in-loop-cell.ensures ∙ (λ i. record { y = y i; x = x i }) in
    let drawn = c.loop-cell.invariant.drawn in
    let ready : IsReady left top (take k c.args.cells.now) c.if-ne.items.items c.if-ne.run here =
    elim c.if-ne.branch [
      | then-ne+in_ok-push_some+in_ok-push_gap w ↦
          let gap = w.in_ok-push_gap.ensures in
          let items : c.if-ne.items.items ≡ (c.loop-cell.items.items ++ some_of c.loop-cell.run Alive) ++ gap.0 =
          ap (λ v. v.items) w.items-is ∙ gap.1.0 ∙ ap (λ (is : List Item). is ++ gap.0) w.in_ok-push_some.ensures in
          rw (w.run-is, items) (ready_gap left top _ _ _ c.loop-cell.pen here gap.0 drawn low low_top n gap.1.1)
      | else-ne w ↦
          let same : here ≡ c.loop-cell.pen = same_fields_is _ _ (not_true _ w.if-ne.ensures) in
          rw (w.run-is, ap (λ v. v.items) w.items-is, same) (ready_here left top _ _ _ c.loop-cell.pen drawn)
    ] in
    record {
      drawn = rw next_pen (drawn_step left top d c.args.cells.now k _ _ inside low n_high ready);
      next = rw next_pen (next_step left c.loop-cell.pen d c.args.cells.now k inside c.loop-cell.invariant.next c.loop-cell.invariant.rising);
      rising = rising_step d c.args.cells.now k inside c.loop-cell.invariant.rising;
    }

-- at the end all cells are drawn
all_drawn : (left top : ℤ) (cells : List Cell) (k : ℕ) (items : List Item) (run : ℕ) (pen : Cell) → length cells ≤ k → IsDrawn left top (take k cells) items run pen → IsDrawn left top cells items run pen
all_drawn left top cells k items run pen h d = subst (λ done. IsDrawn left top done items run pen) (take_all k cells h) d

pub returns-clause-cells : goal.returns-clause-cells
returns-clause-cells c =
    let left_fits = c.ranges.left in let top_fits = c.ranges.top in
    let left : to_z w64 (of_z w64 c.args.left) ≡ c.args.left = omega (arith, ints) in
    let top : to_z w64 (of_z w64 c.args.top) ≡ c.args.top = omega (arith, ints) in
    let d = all_drawn _ _ c.args.cells.now c.loop-cell.cell-index _ _ _ c.loop-cell-test.false c.loop-cell.invariant.drawn in
    rw c.in_ok-push_some-2.ensures (subst (λ (p : Cell). AreCells p (c.loop-cell.items.items ++ some_of c.loop-cell.run Alive) (listed c.args.cells.now)) (λ i. record { y = top i; x = left i }) d.cells)

pub returns-clause-tidy : goal.returns-clause-tidy
returns-clause-tidy c =
    let top_fits = c.ranges.top in
    let top : to_z w64 (of_z w64 c.args.top) ≡ c.args.top = omega (arith, ints) in
    let d = all_drawn _ _ c.args.cells.now c.loop-cell.cell-index _ _ _ c.loop-cell-test.false c.loop-cell.invariant.drawn in
    rw c.in_ok-push_some-2.ensures (subst (λ (t : ℤ). IsTidyFrom t c.args.cells.now (c.loop-cell.items.items ++ some_of c.loop-cell.run Alive)) top (drawn_tidy _ _ _ _ _ _ d))

pub returns-clause-small : goal.returns-clause-small
returns-clause-small c =
    let d = all_drawn _ _ c.args.cells.now c.loop-cell.cell-index _ _ _ c.loop-cell-test.false c.loop-cell.invariant.drawn in
    rw c.in_ok-push_some-2.ensures (drawn_small _ _ _ _ _ _ d)
