-- Numbers are passed from the end on, up to one that can be greater.
use Rattle.std.proofs.Common.{pos, w64, sym}
use Rattle.std.proofs.lemmas.Int.{to_z-of_z}
use Rattle.find_order.proofs.Passing.{in_range, at_place, number_read, number_within, less_read, greatest_read, more_written, passes_one, moves_on, moved_within, all_passed, over_within}
use Rattle.find_order.proofs.advance.advance.Goals as goal

pub returns-then-list-place-clause-within : goal.returns-then-list-place-clause-within
returns-then-list-place-clause-within c =
    let known = in_range c.args.low c.args.high _ _ _ _ _ (to_z-of_z w64 c.args.low c.ranges.low) (to_z-of_z w64 c.args.high c.ranges.high) c.loop-place.invariant in
    let at = at_place c.args.low c.args.high _ _ _ c.loop-place-test.true known in
    let read = number_read c.args.low c.args.high _ _ _ (pos 0) at in
    let within = number_within c.args.low c.args.high _ _ _ c.requires.within at in
    let less = less_read c.args.low c.args.high at.number _ c.ranges.low c.ranges.high within read c.if-list-place.true in
    moved_within c.args.low c.args.high _ _ _ _ c.requires.order c.requires.within at less
    (more_written c.args.low c.args.high at.number _ c.ranges.low c.ranges.high within less read)

pub returns-then-list-place-clause-next : goal.returns-then-list-place-clause-next
returns-then-list-place-clause-next c =
    let known = in_range c.args.low c.args.high _ _ _ _ _ (to_z-of_z w64 c.args.low c.ranges.low) (to_z-of_z w64 c.args.high c.ranges.high) c.loop-place.invariant in
    let at = at_place c.args.low c.args.high _ _ _ c.loop-place-test.true known in
    let read = number_read c.args.low c.args.high _ _ _ (pos 0) at in
    let within = number_within c.args.low c.args.high _ _ _ c.requires.within at in
    let less = less_read c.args.low c.args.high at.number _ c.ranges.low c.ranges.high within read c.if-list-place.true in
    moves_on c.args.low c.args.high _ _ _ _ c.requires.order at less
    (more_written c.args.low c.args.high at.number _ c.ranges.low c.ranges.high within less read)

pub loop-place-preserved : goal.loop-place-preserved
loop-place-preserved c =
    let lows = to_z-of_z w64 c.args.low c.ranges.low in
    let highs = to_z-of_z w64 c.args.high c.ranges.high in
    let known = in_range c.args.low c.args.high _ _ _ _ _ lows highs c.loop-place.invariant in
    let at = at_place c.args.low c.args.high _ _ _ c.loop-place-test.true known in
    let read = number_read c.args.low c.args.high _ _ _ (pos 0) at in
    let within = number_within c.args.low c.args.high _ _ _ c.requires.within at in
    let greatest = greatest_read c.args.low c.args.high at.number _ c.ranges.low c.ranges.high within read c.if-list-place.false in
    in_range _ _ c.args.low c.args.high _ _ _ (sym lows) (sym highs) (passes_one c.args.low c.args.high _ _ _ _ at greatest lows)

pub returns-clause-within : goal.returns-clause-within
returns-clause-within c =
    let known = in_range c.args.low c.args.high _ _ _ _ _ (to_z-of_z w64 c.args.low c.ranges.low) (to_z-of_z w64 c.args.high c.ranges.high) c.loop-place.invariant in
    over_within c.args.low c.args.high c.args.list.now c.loop-place.list c.requires.order (all_passed c.args.low c.args.high _ _ _ c.loop-place-test.false known)

pub returns-clause-next : goal.returns-clause-next
returns-clause-next c =
    let known = in_range c.args.low c.args.high _ _ _ _ _ (to_z-of_z w64 c.args.low c.ranges.low) (to_z-of_z w64 c.args.high c.ranges.high) c.loop-place.invariant in
    let over = all_passed c.args.low c.args.high c.args.list.now c.loop-place.list c.loop-place.place c.loop-place-test.false known in
    (over.none, over.least)
