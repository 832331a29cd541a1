use Rattle.std.proofs.Common.{refl}
use Rattle.life_cells.proofs.Closeness.{none_in_row, some_in_row, none_begins, none_more, none_close, close_by_row}
use Rattle.life_cells.proofs.close.has_close.Goals as goal

pub loop-dy-init : goal.loop-dy-init
loop-dy-init c = none_begins _ _ _

pub returns-then-not-is_empty : goal.returns-then-not-is_empty
returns-then-not-is_empty c =
    (λ h. close_by_row _ _ _ _ c.loop-dy.invariant c.loop-dy-test.true (some_in_row c.args.cells.now _ _ _ _ c.close_in_row.ensures c.is_empty.ensures c.if-not-is_empty.true), λ h. refl)

pub loop-dy-preserved : goal.loop-dy-preserved
loop-dy-preserved c = none_more _ _ _ _ _ c.loop-dy.invariant c.loop-dy-test.true refl (none_in_row c.args.cells.now _ _ _ _ c.close_in_row.ensures c.is_empty.ensures c.if-not-is_empty.false)

pub returns : goal.returns
returns c = (λ h. absurd (cc), λ h. absurd (none_close _ _ _ _ c.loop-dy.invariant c.loop-dy-test.false h))
