use Rattle.std.proofs.Common.{◌^◌, sym, subst}
use Rattle.life_cells.specs.Cells.{alive}
use Rattle.life_cells.specs.Boxes.{IsCellInRange}
use Rattle.build_plan.proofs.OnIsland.{put_on, placed_in_range, top_left_small, no_shape, less_in_range}
use Rattle.build_plan.proofs.fitting.place_on.Goals as goal

pub unreachable-requires : goal.unreachable-requires
unreachable-requires c = no_shape c.args.salvo.now.raw.product c.requires.builds.0 c.requires.builds.1.place c.in_default.ensures.none c.requires.builds.1.is

pub less-requires-clause-by : goal.less-requires-clause-by
less-requires-clause-by c =
    top_left_small (2 ^ 40) (alive c.args.salvo.now.raw.product) c.in-Some.at (placed_in_range (alive c.args.salvo.now.raw.product) c.in-Some.ensures.checked.proper.product) c.in-Some.ensures.some.top_left

pub returns-clause-on : goal.returns-clause-on
returns-clause-on c = λ island shape is builds.
    put_on (alive c.args.salvo.now.raw.product) island shape (alive c.in-Some.field-0-0.now) c.args.corner c.in-Some.at c.less.result is c.in-Some.ensures.some (record { place = builds.place; is = builds.is }) c.less.ensures

pub returns-clause-range : goal.returns-clause-range
returns-clause-range c =
    let at = top_left_small (2 ^ 40) (alive c.args.salvo.now.raw.product) c.in-Some.at (placed_in_range (alive c.args.salvo.now.raw.product) c.in-Some.ensures.checked.proper.product) c.in-Some.ensures.some.top_left in
    subst (IsCellInRange (2 ^ 41)) (sym c.less.ensures) (less_in_range c.args.corner c.in-Some.at c.requires.corner at)
