use Rattle.std.proofs.Common.{w64, to_z, of_z, ◌≡◌, ◌↔◌, IsTrue, subst}
use Rattle.std.proofs.lemmas.Int.{to_z-of_z}
use Rattle.life_cells.specs.Cells.{alive}
use Rattle.life_cells.specs.Listed.{listed}
use Rattle.life_gliders.specs.Beyond.{beyond}
use Rattle.life_gliders.proofs.PastWall.{test_only, test_none}
use Rattle.life_gliders.proofs.beyond.are_beyond.Goals as goal

pub returns-then-has_all : goal.returns-then-has_all
returns-then-has_all c =
    subst (λ w. IsTrue c.has_only.result ↔ (beyond w (alive c.args.cells.now) ≡ listed c.args.list.now)) (to_z-of_z w64 c.args.wall c.ranges.wall)
    (test_only (beyond (to_z w64 (of_z w64 c.args.wall)) (alive c.args.cells.now)) (listed c.args.list.now) _ _ c.has_all.ensures c.if-has_all.true c.has_only.ensures)

pub returns-else-has_all : goal.returns-else-has_all
returns-else-has_all c =
    subst (λ w. IsTrue c.has_all.result ↔ (beyond w (alive c.args.cells.now) ≡ listed c.args.list.now)) (to_z-of_z w64 c.args.wall c.ranges.wall)
    (test_none (beyond (to_z w64 (of_z w64 c.args.wall)) (alive c.args.cells.now)) (listed c.args.list.now) _ c.has_all.ensures c.if-has_all.false)
