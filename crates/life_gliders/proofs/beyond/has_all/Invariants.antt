use Rattle.std.specs.Prelude.{◌≡◌, true}
use Rattle.life_cells.specs.Cells.{alive}
use Rattle.life_gliders.specs.Beyond.{beyond}
use Rattle.life_gliders.proofs.EachCell.{EachBefore}
use Rattle.life_gliders.proofs.beyond.has_all.Given as goal

abbrev pub invariant-loop-cell : goal.invariant-loop-cell
invariant-loop-cell l = EachBefore (λ d. beyond l.wall (alive l.cells) d.x d.y ≡ true) l.list l.cell-index
