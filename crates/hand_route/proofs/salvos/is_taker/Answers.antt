use Rattle.std.proofs.Common.{ap}
use Rattle.book_parts.specs.declared.salvo.RawSalvo.{RawSalvo}
use Rattle.lane_clear.specs.BaseLaws.{not_both}
use Rattle.hand_route.proofs.Sorting.{nothing_built, none_test}
use Rattle.hand_route.proofs.salvos.is_taker.Goals as goal

pub returns-else-is_empty : goal.returns-else-is_empty
returns-else-is_empty c =
    (λ h. absurd (not_both c.if-is_empty.false h), λ takes. (nothing_built c.args.salvo.now _ _ (ap (λ (r : RawSalvo). r.product) c.raw.ensures.raw) c.is_empty.ensures).1 takes.builds_nothing)

pub returns-then-is_empty : goal.returns-then-is_empty
returns-then-is_empty c =
    let none = none_test _ c.args.salvo.now.raw.hand c.is_none.result c.is_none.ensures c.leaves.ensures in (
      λ h. record { builds_nothing = (nothing_built c.args.salvo.now _ _ (ap (λ (r : RawSalvo). r.product) c.raw.ensures.raw) c.is_empty.ensures).0 c.if-is_empty.true; takes = none.0 h },
      λ takes. none.1 takes.takes,
    )
