use Rattle.std.proofs.Common.{refl, subst, List}
use Rattle.life_cells.specs.Cells.{alive}
use Rattle.elbow_graph.specs.Numbered.{IsNumbered}
use Rattle.elbow_graph.specs.declared.goal.Goal.TheVariants.{Lane}
use Rattle.recipe_hit.specs.Checked.{Struck}
use Rattle.build_plan.specs.Trials.{search_site}
use Rattle.build_plan.proofs.Searching.{adds_none}
use Rattle.build_plan.proofs.Trying.{few_salvos, number_of, builds_shape, not_begun, not_walked, still_begins, tried_some, tried_none}
use Rattle.build_plan.proofs.search.Search.try_salvo.Goals as goal

pub salvo_at-salvo-requires-clause-few : goal.salvo_at-salvo-requires-clause-few
salvo_at-salvo-requires-clause-few c = rw c.salvos.ensures (few_salvos c.args.self.now.planner.now.book.now c.settings.ensures.checked)

pub salvo_at-salvo-requires-clause-numbered : goal.salvo_at-salvo-requires-clause-numbered
salvo_at-salvo-requires-clause-numbered c = (c.requires.number.salvo, rw c.salvos.ensures (number_of _ _ c.args.number c.requires.number))

pub place_on-at-requires-clause-builds : goal.place_on-at-requires-clause-builds
place_on-at-requires-clause-builds c =
    (_, builds_shape _ _ c.args.number c.salvo_at-salvo.result.now c.requires.number (subst (λ (l : List Struck). IsNumbered l c.args.number c.salvo_at-salvo.result.now) c.salvos.ensures c.salvo_at-salvo.ensures))

pub returns-then-not-may_begin-clause-none : goal.returns-then-not-may_begin-clause-none
returns-then-not-may_begin-clause-none c =
    let s = c.requires.search in
    let salvo = c.salvo_at-salvo.result.now in
    let numbered = subst (λ (l : List Struck). IsNumbered l c.args.number salvo) c.salvos.ensures c.salvo_at-salvo.ensures in
    let on = c.place_on-at.ensures.on (alive s.wanted.cells) (alive c.args.self.now.shape) s.shape_is (builds_shape _ _ c.args.number salvo c.requires.number numbered) in
    (not_begun c.args.self.now s c.settings.ensures.checked c.args.walk.now.elbow c.args.number salvo numbered c.place_on-at.result on (λ may. let wrong = c.if-not-may_begin.ensures.1 may in cc), adds_none c.args.walk.now)

pub walk_to-requires-clause-number : goal.walk_to-requires-clause-number
walk_to-requires-clause-number c = (c.requires.number.salvo, number_of _ _ c.args.number c.requires.number)

pub returns-then-not-branch-clause-none : goal.returns-then-not-branch-clause-none
returns-then-not-branch-clause-none c =
    let s = c.requires.search in
    let salvo = c.salvo_at-salvo.result.now in
    let numbered = subst (λ (l : List Struck). IsNumbered l c.args.number salvo) c.salvos.ensures c.salvo_at-salvo.ensures in
    let on = c.place_on-at.ensures.on (alive s.wanted.cells) (alive c.args.self.now.shape) s.shape_is (builds_shape _ _ c.args.number salvo c.requires.number numbered) in
    let walked = rw c.if-not-branch.true at c.in_ok-walk_to.ensures.walked in
    (not_walked c.args.self.now s c.settings.ensures.checked c.args.walk.now.elbow c.args.number salvo numbered c.place_on-at.result on walked.1, walked.0)

pub trial-requires-clause-begins : goal.trial-requires-clause-begins
trial-requires-clause-begins c =
    still_begins c.args.self.now c.walk_to.new.self c.salvo_at-salvo.result.now c.place_on-at.result c.in_ok-walk_to.ensures.stays (c.if-not-may_begin.ensures.0 refl)

pub returns-clause-some : goal.returns-clause-some
returns-clause-some c =
    let s = c.requires.search in
    let salvo = c.salvo_at-salvo.result.now in
    let numbered = subst (λ (l : List Struck). IsNumbered l c.args.number salvo) c.salvos.ensures c.salvo_at-salvo.ensures in
    let on = c.place_on-at.ensures.on (alive s.wanted.cells) (alive c.args.self.now.shape) s.shape_is (builds_shape _ _ c.args.number salvo c.requires.number numbered) in
    let walked = rw c.if-not-branch.false at c.in_ok-walk_to.ensures.walked in
    tried_some c.args.self.now c.walk_to.new.self s c.settings.ensures.checked c.args.number salvo numbered c.place_on-at.result on
    (λ from to a b. c.hand_lists_are_one.ensures (search_site c.args.self.now) from to a b) (λ turns span lane from a b. c.least_lists_are_one.ensures turns span (Lane lane) from a b)
    c.args.walk.now c.walk_to.new.walk c.in_ok-walk_to.ensures.stays (c.if-not-may_begin.ensures.0 refl) walked c.in_ok-trial.trial c.in_ok-trial.ensures.some

pub returns-clause-none : goal.returns-clause-none
returns-clause-none c =
    let s = c.requires.search in
    let salvo = c.salvo_at-salvo.result.now in
    let numbered = subst (λ (l : List Struck). IsNumbered l c.args.number salvo) c.salvos.ensures c.salvo_at-salvo.ensures in
    let on = c.place_on-at.ensures.on (alive s.wanted.cells) (alive c.args.self.now.shape) s.shape_is (builds_shape _ _ c.args.number salvo c.requires.number numbered) in
    let walked = rw c.if-not-branch.false at c.in_ok-walk_to.ensures.walked in
    tried_none c.args.self.now c.walk_to.new.self s c.settings.ensures.checked c.args.number salvo numbered c.place_on-at.result on
    (λ from to a b. c.hand_lists_are_one.ensures (search_site c.args.self.now) from to a b) (λ turns span lane from a b. c.least_lists_are_one.ensures turns span (Lane lane) from a b)
    c.args.walk.now c.walk_to.new.walk c.in_ok-walk_to.ensures.stays (c.if-not-may_begin.ensures.0 refl) walked c.in_ok-trial.trial c.in_ok-trial.ensures.none
