use Rattle.std.proofs.Common.{sym, ◌∙◌}
use Rattle.life_cells.specs.Cells.{alive}
use Rattle.build_plan.proofs.Visiting.{room_in_range, in_range}
use Rattle.build_plan.proofs.Trying.{last_in_room, no_farewell}
use Rattle.build_plan.proofs.search.Search.trial.Goals as goal

pub hand_after-hand-requires : goal.hand_after-hand-requires
hand_after-hand-requires c = in_range c.args.self.now.planner.now.placing.room c.args.at (room_in_range _ c.requires.search.planner.room) c.requires.begins.in_room

pub say_farewell-requires-clause-from : goal.say_farewell-requires-clause-from
say_farewell-requires-clause-from c =
    let last = c.in-Some.ensures in
    last_in_room c.args.self.now c.args.salvo.now c.args.at c.in-Some.place c.requires.begins (sym c.hand_after-hand.ensures ∙ last.1)

pub returns-in_default-2-clause-none : goal.returns-in_default-2-clause-none
returns-in_default-2-clause-none c =
    let last = c.in-Some.ensures in
    let none = rw c.in_default-2.is at c.in_ok-walk.ensures.none in
    no_farewell c.args.self.now c.args.salvo.now c.args.at c.args.elbow (alive c.in_ok-built.built) c.hand_after-hand.result c.in-Some.place c.in_ok-built.ensures c.hand_after-hand.ensures last.1 last.0 none
