use Rattle.breadth_search.proofs.Growing.{when_true, when_false, same_on, still_here, lead_adds, lead_stays}
use Rattle.breadth_search.proofs.labelling.grow_at.Goals as goal

pub returns-then-added-clause-kept : goal.returns-then-added-clause-kept
returns-then-added-clause-kept g c = record {
  searching = lead_adds _ _ _ _ _ _ _ c.numbers.invariant.0.searching (still_here _ _ _ _ _ _ c.numbers.invariant.1 c.requires.at) _ c.in-Some.ensures _ _ (when_true _ _ _ c.if-added.true c.in_ok-added.ensures.ok);
  distinct = c.add.ensures.distinct c.numbers.invariant.0.distinct;
}

pub numbers-preserved : goal.numbers-preserved
numbers-preserved g c =
    let kept = when_false _ _ _ c.if-added.false c.in_ok-added.ensures.ok in (
      record {
        searching = lead_stays _ _ _ _ _ _ _ c.numbers.invariant.0.searching (still_here _ _ _ _ _ _ c.numbers.invariant.1 c.requires.at) _ c.in-Some.ensures _ _ kept.0 kept.1;
        distinct = c.add.ensures.distinct c.numbers.invariant.0.distinct;
      },
      same_on _ _ _ _ _ _ c.numbers.invariant.1 kept.0,
    )
