use Rattle.std.proofs.Common.{rules, List, subst}
use Rattle.book_lines.specs.Lines.{texts}
use Rattle.book_lines.proofs.numbers.numbers.Goals as goal
use Rattle.std.proofs.Common.{arith}
use Rattle.std.specs.List.{AllZip}
use Rattle.book_lines.specs.Values.{Level, IsNumberAt}
use Rattle.book_lines.proofs.Pieces.{number_at, numbers_more, some_length, all_taken}

pub loop-item-preserved : goal.loop-item-preserved
loop-item-preserved c =
    let h = numbers_more c.args.items.now _ c.loop-item.item-index c.in-Some.value c.loop-item-test.true c.loop-item.invariant c.in-Some.ensures.number in
    search rules

pub returns-in_default-clause-numbers : goal.returns-in_default-clause-numbers
returns-in_default-clause-numbers c = λ zs h. let n = number_at c.args.items.now zs c.loop-item.item-index c.loop-item-test.true h.each in c.in_default.ensures.number n.0 n.1

pub returns-clause-numbers : goal.returns-clause-numbers
returns-clause-numbers c = rw (c.in_ok-from_slice.ensures) (record {
  each = rw (c.deref.ensures.value) (subst (λ (xs : List _). AllZip (IsNumberAt Level.Numbers) (texts xs) c.loop-item.values.items) (all_taken c.args.items.now c.loop-item.item-index c.loop-item-test.false) c.loop-item.invariant);
  some = some_length c.args.items.now c.requires;
})

pub returns-clause-few : goal.returns-clause-few
returns-clause-few c = let a = c.loop-item.values.small in let b = c.loop-item.values.ok in rw (c.in_ok-from_slice.ensures, c.deref.ensures.value) (omega arith)
