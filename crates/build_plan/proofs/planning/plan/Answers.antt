use Rattle.std.proofs.Common.{◌^◌, sym, ap, subst, ◌∙◌, arith}
use Rattle.std.proofs.lemmas.Result.{IfOk-weaker, IfErr-weaker, err_from_is_err_and}
use Rattle.life_plane.specs.Plane.{shift}
use Rattle.life_cells.specs.BoxLaws.{can_move, range_wider}
use Rattle.life_cells.specs.Boxes.{CanMove, IsInRange}
use Rattle.life_cells.specs.Cells.{Cells, alive}
use Rattle.book_parts.specs.Limits.{AreProper}
use Rattle.build_plan.specs.Placing.{moved_target}
use Rattle.build_plan.proofs.Grounds.{ground_of, placed, passed, moved_so, moved_islands, plan_of, stops_of}
use Rattle.build_plan.proofs.planning.plan.Goals as goal

pub of-placing-requires-clause-settings : goal.of-placing-requires-clause-settings
of-placing-requires-clause-settings c = subst AreProper (sym c.settings.ensures.settings) c.settings.ensures.checked.proper.settings

pub of-placing-requires-clause-cells : goal.of-placing-requires-clause-cells
of-placing-requires-clause-cells c = subst (λ (s : Cells). IsInRange (2 ^ 40) (alive s)) (sym c.cells.ensures.cells) c.cells.ensures.target.range

pub shift-requires : goal.shift-requires
shift-requires c =
    let target = c.args.target.now in
    let by = c.of-placing.result.by in
    let is = placed c.args.book.now.settings c.settings.result.now target c.cells.result.now c.of-placing.result c.settings.ensures.settings c.cells.ensures.cells c.of-placing.ensures in
    let ground = ground_of c.args.book.now.settings (alive target) c.of-placing.result c.settings.ensures.checked.proper.settings c.cells.ensures.target is in
    let x = passed by.x (ground.by.x_low) (ground.by.x_high) in
    let y = passed by.y (ground.by.y_low) (ground.by.y_high) in
    let can = can_move (2 ^ 40) (2 ^ 41) by.x by.y (alive target) c.cells.ensures.target.range (omega arith) ground.by.x_low ground.by.x_high ground.by.y_low ground.by.y_high in
    moved_so (λ dx dy (s : Cells). CanMove dx dy (alive s)) _ _ _ _ _ _ (sym x) (sym y) (sym c.cells-2.ensures.cells) can

pub islands-requires : goal.islands-requires
islands-requires c =
    let target = c.args.target.now in
    let by = c.of-placing.result.by in
    let is = placed c.args.book.now.settings c.settings.result.now target c.cells.result.now c.of-placing.result c.settings.ensures.settings c.cells.ensures.cells c.of-placing.ensures in
    let ground = ground_of c.args.book.now.settings (alive target) c.of-placing.result c.settings.ensures.checked.proper.settings c.cells.ensures.target is in
    let x = passed by.x (ground.by.x_low) (ground.by.x_high) in
    let y = passed by.y (ground.by.y_low) (ground.by.y_high) in
    let near = range_wider (2 ^ 40) (2 ^ 60) (moved_target (alive target) by) ground.near (omega arith) in
    subst (IsInRange (2 ^ 60)) (sym (c.in_ok-moved.ensures ∙ (λ i. shift (x i) (y i) (alive (c.cells-2.ensures.cells i))))) near

pub plan_for-requires-clause-planner : goal.plan_for-requires-clause-planner
plan_for-requires-clause-planner c =
    let target = c.args.target.now in
    let by = c.of-placing.result.by in
    let is = placed c.args.book.now.settings c.settings.result.now target c.cells.result.now c.of-placing.result c.settings.ensures.settings c.cells.ensures.cells c.of-placing.ensures in
    let ground = ground_of c.args.book.now.settings (alive target) c.of-placing.result c.settings.ensures.checked.proper.settings c.cells.ensures.target is in
    record {
      graph = rw c.turns.ensures at c.in_ok-graph.ensures;
      settings = c.in_ok-salvos.ensures.settings ∙ c.settings-2.ensures.settings;
      salvos = c.in_ok-salvos.ensures.salvos ∙ c.salvos.ensures;
      by = ground.by;
      room = ground.room;
    }

pub plan_for-requires-clause-islands : goal.plan_for-requires-clause-islands
plan_for-requires-clause-islands c =
    let target = c.args.target.now in
    let by = c.of-placing.result.by in
    let is = placed c.args.book.now.settings c.settings.result.now target c.cells.result.now c.of-placing.result c.settings.ensures.settings c.cells.ensures.cells c.of-placing.ensures in
    let ground = ground_of c.args.book.now.settings (alive target) c.of-placing.result c.settings.ensures.checked.proper.settings c.cells.ensures.target is in
    let x = passed by.x (ground.by.x_low) (ground.by.x_high) in
    let y = passed by.y (ground.by.y_low) (ground.by.y_high) in
    let are = moved_islands (alive target) (alive c.cells-2.result.now) (alive c.in_ok-moved.moved) by c.in_ok-islands.islands.items c.deref.result.now (ap alive c.cells-2.ensures.cells)
    (c.in_ok-moved.ensures ∙ (λ i. shift (x i) (y i) (alive c.cells-2.result.now))) c.in_ok-islands.ensures c.deref.ensures.value in
    record { target = moved_target (alive target) by; islands = record { noted = are.each; in_order = are.in_order }; near = ground.near }

pub returns-clause-plan : goal.returns-clause-plan
returns-clause-plan c =
    let target = c.args.target.now in
    let by = c.of-placing.result.by in
    let is = placed c.args.book.now.settings c.settings.result.now target c.cells.result.now c.of-placing.result c.settings.ensures.settings c.cells.ensures.cells c.of-placing.ensures in
    let ground = ground_of c.args.book.now.settings (alive target) c.of-placing.result c.settings.ensures.checked.proper.settings c.cells.ensures.target is in
    let x = passed by.x (ground.by.x_low) (ground.by.x_high) in
    let y = passed by.y (ground.by.y_low) (ground.by.y_high) in
    let are = moved_islands (alive target) (alive c.cells-2.result.now) (alive c.in_ok-moved.moved) by c.in_ok-islands.islands.items c.deref.result.now (ap alive c.cells-2.ensures.cells)
    (c.in_ok-moved.ensures ∙ (λ i. shift (x i) (y i) (alive c.cells-2.result.now))) c.in_ok-islands.ensures c.deref.ensures.value in
    IfOk-weaker _ _ _ (plan_of c.args.book.now (alive target) c.of-placing.result c.deref.result.now is are) c.plan_for.ensures.plan

pub returns-clause-stop : goal.returns-clause-stop
returns-clause-stop c =
    let target = c.args.target.now in
    let by = c.of-placing.result.by in
    let is = placed c.args.book.now.settings c.settings.result.now target c.cells.result.now c.of-placing.result c.settings.ensures.settings c.cells.ensures.cells c.of-placing.ensures in
    let ground = ground_of c.args.book.now.settings (alive target) c.of-placing.result c.settings.ensures.checked.proper.settings c.cells.ensures.target is in
    let x = passed by.x (ground.by.x_low) (ground.by.x_high) in
    let y = passed by.y (ground.by.y_low) (ground.by.y_high) in
    let are = moved_islands (alive target) (alive c.cells-2.result.now) (alive c.in_ok-moved.moved) by c.in_ok-islands.islands.items c.deref.result.now (ap alive c.cells-2.ensures.cells)
    (c.in_ok-moved.ensures ∙ (λ i. shift (x i) (y i) (alive c.cells-2.result.now))) c.in_ok-islands.ensures c.deref.ensures.value in
    IfErr-weaker _ _ _ (stops_of c.args.book.now (alive target) c.of-placing.result c.deref.result.now is are) c.plan_for.ensures.stop

pub returns-in_err-salvos-clause-stop : goal.returns-in_err-salvos-clause-stop
returns-in_err-salvos-clause-stop c =
    let p = err_from_is_err_and c.from_residual-in_err-salvos.result c.from_residual-in_err-salvos.ensures.1 in
    rw (p.1, p.2) tt
