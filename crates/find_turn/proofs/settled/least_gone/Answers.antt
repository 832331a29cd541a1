use Rattle.std.proofs.Common.{◌≡◌, ◌∙◌, ℕ, ◌+◌, ◌<◌, ℤ, pos, ◌+ℤ◌, ◌≤ℤ◌, get_or, Option, Some, IfSome, sym, ap, subst, arith}
use Rattle.std.specs.List.{slice_get}
use Rattle.std.proofs.lemmas.Int.{ints}
use Rattle.std.proofs.lemmas.Option.{slice_get-get_or}
use Rattle.life_cells.specs.Cells.{alive, cell}
use Rattle.life_cells.specs.PlaceLaws.{live_at, each_more}
use Rattle.life_cells.specs.declared.cell.Cell.{Cell}
use Rattle.find_turn.specs.Boxes.{IsNear}
use Rattle.find_turn.proofs.Gone.{IsGoneOn, IsNotBefore, lesser_found, still_there, found_on, least_is}
use Rattle.find_turn.proofs.Kept.{in_range_at, each_of_set}
use Rattle.find_turn.proofs.Numbers.{read_near}
use Rattle.find_turn.proofs.settled.least_gone.Goals as goal
use Rattle.find_turn.proofs.settled.least_gone.Goals.{then-not-contains, else-not-contains}

pub v_of-requires : goal.v_of-requires
v_of-requires c = in_range_at _ c.args.cells.now _ c.cells-cell-items.ensures.order c.loop-cell.cell-index _ c.loop-cell-test.true c.requires.range

pub loop-cell-preserved : goal.loop-cell-preserved
loop-cell-preserved c =
    let s = alive c.args.cells.now in
    let later = alive c.args.later.now in
    let cs = c.cells-cell-items.result.now in
    let here = get_or cs c.loop-cell.cell-index (cell (pos 0) (pos 0)) in
    let at = slice_get-get_or cs c.loop-cell.cell-index (cell (pos 0) (pos 0)) c.loop-cell-test.true in
    elim c.if-not-contains.branch [
      | then-not-contains w ↦
          let least = w.lesser.result in
          let is : c.if-not-contains.least ≡ Some least = w.least-is ∙ ap (λ z. Some z) (read_near least w.lesser.ensures.near) in
          let gone = sym c.contains.ensures ∙ w.if-not-contains.true in
          let live = live_at c.args.cells.now cs c.cells-cell-items.ensures.order c.loop-cell.cell-index (cell (pos 0) (pos 0)) c.loop-cell-test.true in
          let below = λ (k : ℕ) (d : Cell) (lt : k < c.loop-cell.cell-index) (there : slice_get cs k ≡ Some d). lesser_found c.loop-cell.least least later d.x d.y w.lesser.ensures.first (c.loop-cell.invariant.each k d lt there) in
          let least_here : least ≤ℤ (here.x +ℤ here.y) = omega (arith, ints, w.lesser.ensures.second, w.v_of.ensures.value) in
          record {
            each = subst (λ (o : Option ℤ). (k : ℕ) (d : Cell) → k < c.loop-cell.cell-index + 1 → slice_get cs k ≡ Some d → IsNotBefore o later d.x d.y) (sym is)
                (each_more cs (λ (d : Cell). IsNotBefore (Some least) later d.x d.y) c.loop-cell.cell-index here at below (λ dead. least_here));
            on = subst (λ (o : Option ℤ). IfSome o (IsGoneOn s later)) (sym is) (found_on s later c.loop-cell.least least _ here.x here.y live gone (read_near w.v_of.result w.v_of.ensures.near ∙ w.v_of.ensures.value) w.lesser.ensures.either c.loop-cell.invariant.on);
            near = subst (λ (o : Option ℤ). IfSome o IsNear) (sym is) w.lesser.ensures.near;
          }
      | else-not-contains w ↦
          let is = w.least-is in
          let there = sym c.contains.ensures ∙ w.if-not-contains.false in
          record {
            each = subst (λ (o : Option ℤ). (k : ℕ) (d : Cell) → k < c.loop-cell.cell-index + 1 → slice_get cs k ≡ Some d → IsNotBefore o later d.x d.y) (sym is)
                (each_more cs (λ (d : Cell). IsNotBefore c.loop-cell.least later d.x d.y) c.loop-cell.cell-index here at c.loop-cell.invariant.each (still_there c.loop-cell.least later here.x here.y there));
            on = subst (λ (o : Option ℤ). IfSome o (IsGoneOn s later)) (sym is) c.loop-cell.invariant.on;
            near = subst (λ (o : Option ℤ). IfSome o IsNear) (sym is) c.loop-cell.invariant.near;
          }
    ]

pub returns-clause-least : goal.returns-clause-least
returns-clause-least c =
    least_is (alive c.args.cells.now) (alive c.args.later.now) c.loop-cell.least
    (each_of_set c.args.cells.now c.cells-cell-items.result.now c.cells-cell-items.ensures.order (λ x y. IsNotBefore c.loop-cell.least (alive c.args.later.now) x y) c.loop-cell.cell-index c.loop-cell-test.false c.loop-cell.invariant.each)
    c.loop-cell.invariant.on
