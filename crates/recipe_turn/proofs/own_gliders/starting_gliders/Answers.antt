use Rattle.std.proofs.Common.{◌≡◌, ◌∙◌, pos, List, Result, Ok, Err, IfOk, subst, sym, ap}
use Rattle.life_plane.specs.Plane.{Plane}
use Rattle.life_cells.specs.declared.cell.Cell.{Cell}
use Rattle.life_cells.specs.Cells.{Cells, alive, from_list}
use Rattle.life_cells.specs.Listed.{listed}
use Rattle.life_cells.specs.Laws.{alive-from_list}
use Rattle.life_plane.specs.ListLaws.{each_at}
use Rattle.book_parts.specs.Proper.{IsDelay}
use Rattle.recipe_turn.proofs.Delays.{gliders_more, gliders_all}
use Rattle.recipe_turn.proofs.own_gliders.starting_gliders.Goals as goal
use Rattle.book_parts.specs.LimitLaws.{delay_read}
use Rattle.recipe_turn.specs.Gliders.{own}

pub loop-delay-init : goal.loop-delay-init
loop-delay-init c = ap listed c.new-cells.ensures.items

pub glider_at-requires-clause-delay : goal.glider_at-requires-clause-delay
glider_at-requires-clause-delay c =
    let here = each_at IsDelay c.args.delays.now c.requires.delays c.loop-delay.delay-index (pos 0) c.loop-delay-test.true in
    subst IsDelay (sym (delay_read _ here)) here

pub loop-delay-preserved : goal.loop-delay-preserved
loop-delay-preserved c =
    let here = each_at IsDelay c.args.delays.now c.requires.delays c.loop-delay.delay-index (pos 0) c.loop-delay-test.true in
    gliders_more c.args.settings.now c.args.delays.now (pos 0) c.loop-delay.delay-index (pos 0) _ _ _ c.loop-delay-test.true c.loop-delay.invariant
    (c.glider_at.ensures ∙ ap (own c.args.settings.now (pos 0)) (delay_read _ here)) c.in_ok-extend_from_slice.ensures.items

-- the set of a list is what it lists
set_of : {E : Type 0} (r : Result Cells E) (cs ds : List Cell) (p : Plane) → ds ≡ cs → listed cs ≡ p → IfOk r (λ s. s ≡ from_list ds) → IfOk r (λ s. alive s ≡ p)
set_of (Ok s) cs ds p same is h = ap alive h ∙ alive-from_list ds ∙ ap listed same ∙ is
set_of (Err e) cs ds p same is h = h

pub returns : goal.returns
returns c =
    set_of c.from_cells.result _ _ _ c.deref.ensures.value
    (gliders_all c.args.settings.now c.args.delays.now (pos 0) c.loop-delay.delay-index c.loop-delay.cells.items c.loop-delay-test.false c.loop-delay.invariant) c.from_cells.ensures
