use Rattle.std.proofs.Common.{◌∙◌, sym}
use Rattle.breadth_search.proofs.Same.{known, at_false}
use Rattle.breadth_search.proofs.found.Found.add.Goals as goal

pub returns-else-added-clause-ok : goal.returns-else-added-clause-ok
returns-else-added-clause-ok g c =
    let there = known g.S.PartialEq.eq g.met.S.Key.same _ _ _ (sym c.in_ok-added.ensures.added ∙ c.if-added.false) c.in_ok-added.ensures.keys in
    at_false _ _ _ c.if-added.false (record { states_are = there.0; labels_are = c.in_ok-reserve.ensures.items }, there.1)
