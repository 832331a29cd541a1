use Rattle.std.proofs.Common.{◌≡◌, map, sym, subst, ◌∙◌}
use Rattle.life_plane.specs.LookUpLaws.{not_if_false}
use Rattle.life_cells.specs.Moved.{moved}
use Rattle.find_turn.proofs.KindBoxes.{placed_range}
use Rattle.find_turn.proofs.Moving.{some_cell, all_in_range, as_many, lists_move, sets_move}
use Rattle.find_turn.proofs.Numbers.{read_near}
use Rattle.find_turn.proofs.standing.shift_onto.Goals as goal

pub returns-then-from-to : goal.returns-then-from-to
returns-then-from-to c a is = c.if-from-to.true (as_many c.args.from.now c.args.to.now _ _ a c.cells-from.ensures.order c.cells-to.ensures.order is)

pub first_shift-shift-requires-clause-some : goal.first_shift-shift-requires-clause-some
first_shift-shift-requires-clause-some c = some_cell c.args.from.now _ c.cells-from.ensures.order c.requires.lives

pub first_shift-shift-requires-clause-from_range : goal.first_shift-shift-requires-clause-from_range
first_shift-shift-requires-clause-from_range c = all_in_range _ c.args.from.now _ c.cells-from.ensures.order (placed_range _ c.requires.placed)

pub first_shift-shift-requires-clause-to_range : goal.first_shift-shift-requires-clause-to_range
first_shift-shift-requires-clause-to_range c = all_in_range _ c.args.to.now _ c.cells-to.ensures.order c.requires.range

pub are_moved-requires-clause-range : goal.are_moved-requires-clause-range
are_moved-requires-clause-range c = all_in_range _ c.args.from.now _ c.cells-from.ensures.order (placed_range _ c.requires.placed)

pub returns-then-not-are_moved : goal.returns-then-not-are_moved
returns-then-not-are_moved c a is =
    let from = c.cells-from.result.now in let to = c.cells-to.result.now in
    let all = lists_move c.args.from.now c.args.to.now from to a c.cells-from.ensures.order c.cells-to.ensures.order is in
    let same = read_near _ c.first_shift-shift.ensures.near ∙ c.first_shift-shift.ensures.only a all in
    not_if_false _ _ c.if-not-are_moved.true c.are_moved.ensures (subst (λ z. to ≡ map (moved z z) from) (sym same) all)

pub returns : goal.returns
returns c = sets_move c.args.from.now c.args.to.now _ _ _ c.cells-from.ensures.order c.cells-to.ensures.order (c.are_moved.ensures.0 c.if-not-are_moved.false)
