use Rattle.std.proofs.Common.{◌++◌, sym, subst, ◌∙◌}
use Rattle.life_cells.specs.Cells.{alive}
use Rattle.hand_route.specs.Lists.{IsLeastFarewell}
use Rattle.build_plan.specs.Throws.{list_throws}
use Rattle.build_plan.specs.Usable.{site_of}
use Rattle.build_plan.specs.Visited.{AreVisited}
use Rattle.build_plan.proofs.Sites.{at_site, farewell_there, none_served}
use Rattle.build_plan.proofs.farewell.say_farewell.Goals as goal

pub push_list-requires : goal.push_list-requires
push_list-requires c =
    let least = rw c.in-Some.is at c.in_ok-list.ensures.some in
    subst (AreVisited c.args.planner.now.book.now.salvos c.args.from) (sym c.deref.ensures.value)
    (farewell_there c.args.planner.now c.requires.planner c.args.built.now c.in_ok-ways.ways c.args.from c.in-Some.list.items c.in_ok-ways.ensures.among c.in_ok-ways.ensures.from c.requires.from least.ends)

pub returns-clause-none : goal.returns-clause-none
returns-clause-none c =
    let planner = c.args.planner.now in
    let site = site_of planner.book.now planner.placing.room (alive c.args.built.now) in
    let here = rw c.in-Some.is at c.in_ok-list.ensures.some in
    let least = at_site planner c.requires.planner c.args.built.now (λ s f. IsLeastFarewell s f c.in-Some.list.items) c.in_ok-ways.ways c.args.from c.in_ok-ways.ensures.among c.in_ok-ways.ensures.from here in
    let throws = c.deref-2.ensures.value ∙ c.in_ok-push_list.ensures ∙ (λ i. c.new-throws.ensures.items i ++ list_throws planner.book.now.salvos c.args.from (c.deref.ensures.value i)) in
    let served = rw c.if-branch.false at c.in_ok-serve.ensures in
    none_served planner c.requires.planner c.args.built.now c.args.from (λ a b. c.farewells_are_one.ensures site c.args.from a b) c.args.elbow c.in-Some.list.items c.deref-2.result.now least throws served.1.1
