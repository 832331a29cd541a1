use Rattle.std.specs.Prelude.{◌≡◌, true, int_le, pos, ◌+ℤ◌, ◌-ℤ◌}
use Rattle.life_cells.specs.Listed.{listed}
use Rattle.life_gliders.proofs.EachCell.{EachBefore}
use Rattle.life_gliders.proofs.beyond.has_only.Given as goal

abbrev pub invariant-loop-cell : goal.invariant-loop-cell
invariant-loop-cell l = EachBefore (λ d. int_le (l.wall +ℤ pos 5) (d.x -ℤ d.y) ≡ true → listed l.list d.x d.y ≡ true) l.cell-items l.cell-index
