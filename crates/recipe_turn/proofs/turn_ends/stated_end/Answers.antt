use Rattle.std.proofs.Common.{◌∙◌, sym, ap}
use Rattle.life_cells.specs.Cells.{alive}
use Rattle.life_cells.specs.Laws.{alive-empty}
use Rattle.recipe_turn.specs.Turn.{turn_end}
use Rattle.recipe_turn.proofs.TurnEnds.{thrown_end}
use Rattle.recipe_turn.proofs.Fronts.{throw_limits}
use Rattle.recipe_turn.proofs.turn_ends.stated_end.Goals as goal
use Rattle.book_parts.specs.LimitLaws.{coordinate_read, index_read}

pub returns-in-Close : goal.returns-in-Close
returns-in-Close c = ap alive c.empty.ensures ∙ alive-empty ∙ ap (λ e. turn_end e (alive c.args.next.now)) (sym c.in-Close.is)

pub returns-in_ok-thrown-in-Emit : goal.returns-in_ok-thrown-in-Emit
returns-in_ok-thrown-in-Emit c =
    let limits = throw_limits c.args.end c.in-Emit.kind c.in-Emit.shift c.in-Emit.lane c.in-Emit.j c.in-Emit.is c.requires.end in
    thrown_end c.union.result c.args.end c.in-Emit.kind c.in-Emit.shift c.in-Emit.lane c.in-Emit.j _ _ _ (alive c.args.next.now) _ _ _ c.in-Emit.is (coordinate_read _ limits.0)
    (coordinate_read _ limits.1.0) (index_read _ limits.1.1) c.in_ok-elbow-in-Emit.ensures c.glider_cells.ensures.cells c.in_ok-thrown-in-Emit.ensures c.union.ensures
