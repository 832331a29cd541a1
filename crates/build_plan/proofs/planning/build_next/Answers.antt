use Rattle.std.proofs.Common.{◌-ℤ◌, List, sym, ap, subst, ◌∙◌, inl}
use Rattle.std.proofs.lemmas.List.{take_rest}
use Rattle.life_cells.specs.Cells.{cell}
use Rattle.life_islands.specs.declared.island.Island.{Island}
use Rattle.build_plan.specs.Drafts.{AreLeft, TakesOne, stand_at}
use Rattle.build_plan.specs.Usable.{Taken, IsUsable}
use Rattle.build_plan.proofs.Drafting.{left_from, built_more, long_there, none_there}
use Rattle.build_plan.proofs.planning.build_next.Goals as goal

pub take-requires-clause-left : goal.take-requires-clause-left
take-requires-clause-left c = subst AreLeft (sym (take_rest c.args.islands.now c.args.place)) (left_from c.args.islands.now c.args.place c.requires.islands c.requires.place)

pub returns-in_default-clause-stop : goal.returns-in_default-clause-stop
returns-in_default-clause-stop c =
    let book = c.args.planner.now.book.now in
    let room = c.args.planner.now.placing.room in
    let none = rw c.in_default.is at c.in_ok-next.ensures.none in
    none_there book c.args.planner.now.placing c.args.islands.now c.args.place c.args.draft c.requires.draft c.index-islands-place.result c.requires.place c.index-islands-place.is
    (subst (λ (l : List Island). (taken : Taken) → IsUsable book room (stand_at c.args.draft l) taken → ⊥) (take_rest c.args.islands.now c.args.place) none) c.own_cell.result
    (c.own_cell.ensures ∙ ap (λ (i : Island). cell (i.first.x -ℤ c.args.planner.now.placing.by.x) (i.first.y -ℤ c.args.planner.now.placing.by.y)) (sym c.index-islands-place.is))

pub returns-then-next-gt-MOST_GLIDERS-clause-stop : goal.returns-then-next-gt-MOST_GLIDERS-clause-stop
returns-then-next-gt-MOST_GLIDERS-clause-stop c =
    let book = c.args.planner.now.book.now in
    let room = c.args.planner.now.placing.room in
    let takes = subst (λ (l : List Island). TakesOne book room c.args.draft l c.in-Some.next) (take_rest c.args.islands.now c.args.place) (rw c.in-Some.is at c.in_ok-next.ensures.some) in
    inl (long_there book c.args.planner.now.placing c.args.islands.now c.args.place c.args.draft c.requires.draft c.in-Some.next takes c.if-next-gt-MOST_GLIDERS.true)

pub returns-clause-draft : goal.returns-clause-draft
returns-clause-draft c =
    let book = c.args.planner.now.book.now in
    let room = c.args.planner.now.placing.room in
    let takes = subst (λ (l : List Island). TakesOne book room c.args.draft l c.in-Some.next) (take_rest c.args.islands.now c.args.place) (rw c.in-Some.is at c.in_ok-next.ensures.some) in
    built_more book room c.args.islands.now c.args.place c.args.draft c.requires.draft c.in-Some.next takes c.if-next-gt-MOST_GLIDERS.false
