use Rattle.std.proofs.Common.{refl, subst, w64, to_z, of_z}
use Rattle.std.proofs.lemmas.Int.{to_z-of_z}
use Rattle.life_cells.specs.Cells.{alive}
use Rattle.life_cells.specs.Listed.{listed}
use Rattle.life_gliders.specs.Beyond.{beyond, IsPartOf}
use Rattle.life_gliders.proofs.PastWall.{all_past}
use Rattle.life_gliders.proofs.beyond.has_all.Goals as goal

pub returns : goal.returns
returns c = (
  λ _. subst (λ w. IsPartOf (listed c.args.list.now) (beyond w (alive c.args.cells.now))) (to_z-of_z w64 c.args.wall c.ranges.wall)
      (all_past (to_z w64 (of_z w64 c.args.wall)) c.args.list.now (alive c.args.cells.now) c.loop-cell.cell-index c.loop-cell-test.false c.loop-cell.invariant),
  λ _. refl,
)
