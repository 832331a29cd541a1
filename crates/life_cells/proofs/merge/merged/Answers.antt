use Rattle.std.proofs.Common.{sym, ap, ◌∙◌, ◌++◌}
use Rattle.std.specs.Prelude.{pos}
use Rattle.std.proofs.lemmas.List.{take_rest}
use Rattle.life_cells.specs.Cells.{cell}
use Rattle.life_cells.proofs.Merging.{merge_left, merge_right, merge_both, merged_both}
use Rattle.life_cells.proofs.merge.merged.Goals as goal

pub cells-preserved-in-Less : goal.cells-preserved-in-Less
cells-preserved-in-Less c = merge_left _ _ _ _ _ _ (cell (pos 0) (pos 0)) c.cells-test.true c.if-j-right.true (sym c.in-Less.ensures) c.cells.invariant c.in_ok-push-in-Less.ensures.items

pub cells-preserved-in-Equal : goal.cells-preserved-in-Equal
cells-preserved-in-Equal c = merge_both _ _ _ _ _ _ (cell (pos 0) (pos 0)) c.cells-test.true c.if-j-right.true (sym c.in-Equal.ensures) c.cells.invariant c.in_ok-push-in-Equal.ensures.items

pub cells-preserved : goal.cells-preserved
cells-preserved c = merge_right _ _ _ _ _ _ (cell (pos 0) (pos 0)) c.cells-test.true c.if-j-right.true (sym c.in-Greater.ensures) c.cells.invariant c.in_ok-push-in-Greater.ensures.items

pub returns-clause-both : goal.returns-clause-both
returns-clause-both c =
    merged_both _ _ _ _ _ _ c.cells.invariant
    (c.in_ok-extend_from_slice-2.ensures.items
    ∙ (λ i. (c.in_ok-extend_from_slice.ensures.items ∙ ap (λ xs. c.cells.all.items ++ xs) (take_rest c.args.left.now c.cells.i)) i ++ take_rest c.args.right.now c.cells.j i))
