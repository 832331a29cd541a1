use Rattle.std.specs.Prelude.{◌≡◌, true, int_le, pos, ◌+ℤ◌, ◌-ℤ◌}
use Rattle.life_gliders.proofs.EachCell.{EachBefore}
use Rattle.life_gliders.proofs.beyond.first_beyond.Given as goal

abbrev pub invariant-loop-cell : goal.invariant-loop-cell
invariant-loop-cell l = EachBefore (λ d. int_le (l.wall +ℤ pos 5) (d.x -ℤ d.y) ≡ true → ⊥) l.cell-items l.cell-index
