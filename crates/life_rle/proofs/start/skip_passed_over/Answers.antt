use Rattle.std.proofs.Common.{ℕ, ◌+◌, ◌<◌, ◌^◌, List, arith, rules, length, subst, sym}
use Rattle.life_rle.specs.Opened.{IsOpened}
use Rattle.life_rle.proofs.Lined.{lines_end, some_of_false}
use Rattle.life_rle.proofs.BeforeItems.{number_small}
use Rattle.life_rle.proofs.start.skip_passed_over.Goals as goal

pub found_with-place_line-requires-clause-ends : goal.found_with-place_line-requires-clause-ends
found_with-place_line-requires-clause-ends c = let opened = c.loop-line.invariant in lines_end c.args.text.now opened.head c.loop-line.rest.now opened.lines_are

pub overflow_add-number : goal.overflow_add-number
overflow_add-number c =
    let some = some_of_false c.loop-line.rest.now c.loop-line-test.ensures in
    let small = number_small c.args.text.now c.loop-line.rest.now c.loop-line.place_line c.loop-line.number c.loop-line.invariant in
    let fits : length c.args.text.now + 2 < 2 ^ 64 = search rules in
    omega arith

pub loop-line-preserved : goal.loop-line-preserved
loop-line-preserved c =
    subst (λ (bs : List ℕ). IsOpened c.args.text.now bs c.found_with-place_line.result (c.loop-line.number + 1)) (sym c.split_line.ensures.rest) (c.found_with-place_line.ensures c.loop-line.number c.loop-line.invariant)
