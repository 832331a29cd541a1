use Rattle.std.proofs.Common.{◌≡◌, ap, ◌∙◌, arith}
use Rattle.life_cells.specs.Cells.{alive}
use Rattle.life_plane.specs.Plane.{run}
use Rattle.life_cells.specs.BoxLaws.{range_wider}
use Rattle.life_cells.proofs.Generations.{first_generation, next_generation}
use Rattle.life_cells.proofs.step.run_plain.Goals as goal

pub generations-init : goal.generations-init
generations-init c = first_generation _ _ _ (ap alive c.in_ok-now.ensures) c.requires

pub next_generation-requires : goal.next_generation-requires
next_generation-requires c = range_wider _ _ _ c.generations.invariant.in_range (omega arith)

pub generations-preserved : goal.generations-preserved
generations-preserved c = next_generation _ _ _ _ _ c.generations.invariant c.in_ok-now-2.ensures

pub returns : goal.returns
returns c =
    let last : c.generations._generation ≡ c.args.n = omega arith in
    c.generations.invariant.is ∙ ap (λ n. run n (alive c.args.cells.now)) last
