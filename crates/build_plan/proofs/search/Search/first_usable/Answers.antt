use Rattle.std.proofs.Common.{refl, sym, ◌∙◌, arith}
use Rattle.build_plan.proofs.Tried.{number_at, found_first, tried_more, none_usable, not_both}
use Rattle.build_plan.proofs.search.Search.first_usable.Goals as goal

pub loop-number-init : goal.loop-number-init
loop-number-init c = record { search = c.requires; same = refl; elbow_is = refl; events_are = refl; none = λ k lt. absurd (omega arith) }

pub try_salvo-requires-clause-search : goal.try_salvo-requires-clause-search
try_salvo-requires-clause-search c = c.loop-number.invariant.search

pub try_salvo-requires-clause-number : goal.try_salvo-requires-clause-number
try_salvo-requires-clause-number c =
    number_at c.args.self.now c.requires c.settings.ensures.checked c.args.walk.now c.by_shape-number-items.result.now c.by_shape-number-items.ensures c.loop-number.number-index c.loop-number.self c.loop-number.invariant.same c.loop-number-test.true

pub returns-then-is_some-clause-some : goal.returns-then-is_some-clause-some
returns-then-is_some-clause-some c =
    found_first c.args.self.now c.requires c.settings.ensures.checked c.args.walk.now c.by_shape-number-items.result.now c.by_shape-number-items.ensures c.loop-number.number-index c.loop-number.self c.loop-number.walk c.try_salvo.new.walk
    c.in_ok-found.found c.loop-number-test.true c.loop-number.invariant c.in_ok-found.ensures.some

pub returns-then-is_some-clause-none : goal.returns-then-is_some-clause-none
returns-then-is_some-clause-none c = not_both _ c.in_ok-found.found (sym c.is_some.ensures ∙ c.if-is_some.true)

pub loop-number-preserved : goal.loop-number-preserved
loop-number-preserved c =
    tried_more c.args.self.now c.requires c.settings.ensures.checked c.args.walk.now c.by_shape-number-items.result.now c.by_shape-number-items.ensures c.loop-number.number-index c.loop-number.self c.try_salvo.new.self c.loop-number.walk
    c.try_salvo.new.walk c.go_back.new.self c.in_ok-found.found c.loop-number-test.true c.loop-number.invariant (sym c.is_some.ensures ∙ c.if-is_some.false) c.in_ok-found.ensures.search c.in_ok-found.ensures.stays c.in_ok-found.ensures.none
    c.go_back.ensures.elbow (rw c.len-len.ensures at c.go_back.ensures.events)

pub returns-clause-none : goal.returns-clause-none
returns-clause-none c =
    none_usable c.args.self.now c.requires c.settings.ensures.checked c.args.walk.now c.by_shape-number-items.result.now c.by_shape-number-items.ensures c.loop-number.number-index c.loop-number.self c.loop-number.walk
    c.loop-number-test.false c.loop-number.invariant
