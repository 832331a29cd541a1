use Rattle.std.proofs.Common.{w64}
use Rattle.std.proofs.lemmas.Int.{to_z-of_z}
use Rattle.find_order.proofs.Behind.{grown}
use Rattle.find_order.proofs.lists.move_on.Goals as goal

pub returns-clause-next : goal.returns-clause-next
returns-clause-next c =
    grown c.args.low c.args.high _ _ c.args.longest _ _ c.args.list.now.items _ _ _ c.requires.order (to_z-of_z w64 c.args.low c.ranges.low) (to_z-of_z w64 c.args.high c.ranges.high)
    c.deref_mut.ensures.value c.if-advance.ensures.next.0 c.if-advance.ensures.next.1 c.args.list.now.ok.0 c.len.ensures c.if-len-longest.false c.requires.short c.in_ok-push.ensures.items
