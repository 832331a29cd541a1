use Rattle.std.proofs.Common.{sym, arith}
use Rattle.std.specs.Prelude.{pos}
use Rattle.life_cells.specs.Cells.{cell}
use Rattle.life_cells.proofs.Differing.{left_lesser, right_lesser, left_longer, right_longer}
use Rattle.life_cells.proofs.difference.first_difference_of.Goals as goal
use Rattle.life_cells.proofs.difference.first_difference_of.Goals.{then-same-test+else-i-right, else-same-test}

pub returns-in-Less-clause-some : goal.returns-in-Less-clause-some
returns-in-Less-clause-some c =
    left_lesser _ _ _ (cell (pos 0) (pos 0)) c.same-test.true c.if-i-right.true (sym c.in-Less.ensures) c.requires.left_rises c.requires.right_rises c.same.invariant

pub returns-in-Greater-clause-some : goal.returns-in-Greater-clause-some
returns-in-Greater-clause-some c =
    right_lesser _ _ _ (cell (pos 0) (pos 0)) c.same-test.true c.if-i-right.true (sym c.in-Greater.ensures) c.requires.left_rises c.requires.right_rises c.same.invariant

pub returns-then-i-left-clause-some : goal.returns-then-i-left-clause-some
returns-then-i-left-clause-some c = left_longer _ _ _ (cell (pos 0) (pos 0)) (omega arith) (elim c.same-test.branch [ then-same-test+else-i-right w ↦ omega arith | else-same-test w ↦ absurd (omega arith) ]) c.requires.left_rises c.same.invariant

pub returns-then-i-right-2-clause-some : goal.returns-then-i-right-2-clause-some
returns-then-i-right-2-clause-some c = right_longer _ _ _ (cell (pos 0) (pos 0)) (omega arith) (omega arith) c.requires.right_rises c.same.invariant
