use Rattle.std.proofs.Common.{refl, sym, ap, ◌∙◌}
use Rattle.book_parts.specs.declared.salvo.RawSalvo.{RawSalvo}
use Rattle.lane_clear.specs.BaseLaws.{not_both}
use Rattle.hand_route.proofs.Sorting.{nothing_built, near_by}
use Rattle.hand_route.proofs.salvos.carrier_of.Goals as goal

pub returns-then-not-is_empty-clause-none : goal.returns-then-not-is_empty-clause-none
returns-then-not-is_empty-clause-none c = λ k by. not_both c.if-not-is_empty.true ((nothing_built c.args.salvo.now _ _ (ap (λ (r : RawSalvo). r.product) c.raw.ensures.raw) c.is_empty.ensures).1 by.builds_nothing)

pub returns-clause-some : goal.returns-clause-some
returns-clause-some c =
    let carries = sym c.leaves.ensures ∙ c.in_ok-by.was in (
      refl,
      (
        record { builds_nothing = (nothing_built c.args.salvo.now _ _ (ap (λ (r : RawSalvo). r.product) c.raw.ensures.raw) c.is_empty.ensures).0 c.if-not-is_empty.false; carries = carries },
        near_by c.args.salvo.now _ c.raw.ensures.checked.proper carries,
      ),
    )
