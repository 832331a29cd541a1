use Rattle.std.proofs.Common.{ap, sym, subst, ◌∙◌, ℕ, List}
use Rattle.build_plan.specs.Usable.{way_throws}
use Rattle.build_plan.specs.Visited.{IsCarried}
use Rattle.build_plan.specs.Trials.{search_site}
use Rattle.build_plan.proofs.Searching.{still_search, way_carried, adds_none, no_way, walked_to}
use Rattle.build_plan.proofs.Visiting.{room_in_range, in_range}
use Rattle.build_plan.proofs.search.Search.walk_to.Goals as goal

pub returns-in_default-clause-search : goal.returns-in_default-clause-search
returns-in_default-clause-search c = still_search c.args.self.now c.way_to.new.ways c.requires.search (c.in_ok-way.ensures.same _ _ c.requires.search.ways)

pub returns-in_default-clause-walked : goal.returns-in_default-clause-walked
returns-in_default-clause-walked c =
    let none = rw c.in_default.is at (c.in_ok-way.ensures.none _ _ c.requires.search.ways) in
    (adds_none c.args.walk.now, no_way _ _ _ c.args.number c.args.at none)

pub throws_for-requires-clause-way : goal.throws_for-requires-clause-way
throws_for-requires-clause-way c =
    let s = c.args.self.now in
    let is = rw c.in-Some.is at (c.in_ok-way.ensures.some _ _ c.requires.search.ways) in
    subst (IsCarried s.planner.now.book.now.salvos s.place) (sym c.deref.ensures.value)
    (way_carried (search_site s) s.place c.in-Some.way.items c.args.at (room_in_range _ c.requires.search.planner.room) c.requires.search.hand is)

pub throws_for-requires-clause-at : goal.throws_for-requires-clause-at
throws_for-requires-clause-at c = in_range c.args.self.now.planner.now.placing.room c.args.at (room_in_range _ c.requires.search.planner.room) c.requires.at

pub returns-clause-search : goal.returns-clause-search
returns-clause-search c = still_search c.args.self.now c.way_to.new.ways c.requires.search (c.in_ok-way.ensures.same _ _ c.requires.search.ways)

pub returns-clause-walked : goal.returns-clause-walked
returns-clause-walked c =
    let s = c.args.self.now in
    let is = rw c.in-Some.is at (c.in_ok-way.ensures.some _ _ c.requires.search.ways) in
    let throws = c.deref-2.ensures.value ∙ c.in_ok-throws.ensures ∙ ap (λ (way : List ℕ). way_throws s.planner.now.book.now.salvos s.place way c.args.number c.args.at) c.deref.ensures.value in
    walked_to s c.args.walk.now c.serve.new.walk c.args.number c.args.at c.in-Some.way.items c.deref-2.result.now c.in_ok-all.all (λ from to a b. c.hand_lists_are_one.ensures (search_site s) from to a b) is throws c.in_ok-all.ensures
