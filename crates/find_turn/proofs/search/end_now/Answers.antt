use Rattle.std.proofs.Common.{subst}
use Rattle.life_plane.specs.LookUpLaws.{not_if_false}
use Rattle.life_cells.specs.BoxRangeLaws.{box_in_range}
use Rattle.life_cells.specs.Boxes.{IsBoxOf}
use Rattle.life_cells.specs.Cells.{alive}
use Rattle.find_turn.proofs.BoxesTell.{box_tells}
use Rattle.find_turn.proofs.search.end_now.Goals as goal

pub may_be_end-requires-clause-bounds : goal.may_be_end-requires-clause-bounds
may_be_end-requires-clause-bounds c =
    let s = alive c.args.tiles.now.cells in
    box_in_range _ c.in-Some.bounds s (subst (λ b. IsBoxOf b s) c.in-Some.is c.requires.bounds) c.requires.range

pub returns-then-not-may_be_end : goal.returns-then-not-may_be_end
returns-then-not-may_be_end c =
    let s = alive c.args.tiles.now.cells in
    box_tells c.args.settings.now c.args.kinds.now c.args.boxes.now s c.in-Some.bounds c.requires.boxes (subst (λ b. IsBoxOf b s) c.in-Some.is c.requires.bounds) (not_if_false _ _ c.if-not-may_be_end.true c.may_be_end.ensures)
