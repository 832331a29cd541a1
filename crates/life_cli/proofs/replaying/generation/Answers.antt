use Rattle.std.proofs.Common.{◌∙◌, ap, arith, ◌<◌, ◌^◌}
use Rattle.life_plane.specs.Plane.{run}
use Rattle.life_cells.specs.Cells.{Cells, alive}
use Rattle.life_cli.proofs.Generations.{later_in_range}
use Rattle.life_cli.proofs.replaying.generation.Goals as goal

pub returns-clause-range : goal.returns-clause-range
returns-clause-range g c =
    let fits = c.ranges.generations.fits in
    let short : c.args.generations < 2 ^ 32 = omega arith in
    later_in_range (alive c.args.cells.now) c.args.generations c.run_tiles.new.tiles.cells c.to_cells.result c.requires short
    (c.in_ok-run_tiles.ensures.run ∙ ap (λ (t : Cells). run c.args.generations (alive t)) c.in_ok-tiles.ensures) c.to_cells.ensures
