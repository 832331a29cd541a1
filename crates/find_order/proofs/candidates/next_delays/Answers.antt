use Rattle.std.proofs.Common.{sym, subst}
use Rattle.std.specs.List.{AllByRecursion}
use Rattle.book_parts.specs.Proper.{IsDelay}
use Rattle.find_order.proofs.NextKind.{gaps_are_small}
use Rattle.find_order.proofs.candidates.next_delays.Goals as goal

pub delays_by-requires-clause-small : goal.delays_by-requires-clause-small
delays_by-requires-clause-small c =
    let listed = rw c.in-Some.is at c.in_ok-list.ensures.listed in
    subst (AllByRecursion IsDelay) (sym c.deref.ensures.value) (gaps_are_small c.args.range _ c.requires.proper listed.within)
