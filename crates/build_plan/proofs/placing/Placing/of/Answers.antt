use Rattle.std.proofs.Common.{◌^◌, sym, subst}
use Rattle.life_cells.specs.Cells.{alive}
use Rattle.life_cells.specs.Boxes.{IsCellInRange}
use Rattle.build_plan.proofs.Places.{least_in_range, corner_in_range, empty_placing, box_placing}
use Rattle.build_plan.proofs.placing.Placing.of.Goals as goal

pub returns-in_default : goal.returns-in_default
returns-in_default c = empty_placing c.args.settings.now c.args.cells.now c.new-by.result c.at.result c.in_default.ensures.none c.new-by.ensures c.at.ensures

pub to_corner-by-requires-clause-bounds : goal.to_corner-by-requires-clause-bounds
to_corner-by-requires-clause-bounds c = (least_in_range (2 ^ 40) (alive c.args.cells.now) c.in-Some.bounds c.requires.cells c.in-Some.ensures.some).range

pub room_about-requires-clause-bounds : goal.room_about-requires-clause-bounds
room_about-requires-clause-bounds c = (least_in_range (2 ^ 40) (alive c.args.cells.now) c.in-Some.bounds c.requires.cells c.in-Some.ensures.some).range

pub room_about-requires-clause-by : goal.room_about-requires-clause-by
room_about-requires-clause-by c =
    subst (IsCellInRange (2 ^ 41)) (sym c.to_corner-by.ensures)
    (corner_in_range c.args.settings.now c.in-Some.bounds c.requires.settings (least_in_range (2 ^ 40) (alive c.args.cells.now) c.in-Some.bounds c.requires.cells c.in-Some.ensures.some).range)

pub returns : goal.returns
returns c = box_placing c.args.settings.now (alive c.args.cells.now) c.in-Some.bounds c.room_about.result c.to_corner-by.result c.in-Some.ensures.some c.to_corner-by.ensures c.room_about.ensures
