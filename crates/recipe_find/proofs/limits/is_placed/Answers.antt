use Rattle.std.proofs.Common.{refl}
use Rattle.life_cells.specs.Cells.{alive}
use Rattle.book_parts.specs.KindLaws.{empty_dead}
use Rattle.recipe_find.proofs.Placing.{placed_by_box, box_placed}
use Rattle.recipe_find.proofs.limits.is_placed.Goals as goal

pub returns-in-Some : goal.returns-in-Some
returns-in-Some c = (
  λ h. placed_by_box (alive c.args.cells.now) c.in-Some.bounds c.in-Some.ensures.some (c.is_box.ensures.0 h),
  λ h. c.is_box.ensures.1 (box_placed (alive c.args.cells.now) c.in-Some.bounds c.in-Some.ensures.some h),
)

pub returns-in-None : goal.returns-in-None
returns-in-None c = (
  λ h. record { x = λ x y lives. absurd (empty_dead c.args.cells.now x y c.in-None.ensures.none lives); y = λ x y lives. absurd (empty_dead c.args.cells.now x y c.in-None.ensures.none lives) },
  λ h. refl,
)
