use Rattle.std.proofs.Common.{List, subst}
use Rattle.book_lines.specs.Lines.{texts, HaveNoColon}
use Rattle.book_lines.proofs.items.split_colon.Goals as goal
use Rattle.std.proofs.lemmas.List.{take_rest}
use Rattle.book_lines.proofs.Pieces.{colon_free, colon_at, no_cut, all_taken}

pub loop-index-preserved : goal.loop-index-preserved
loop-index-preserved c = colon_free c.args.items.now c.loop-index.index c.loop-index-test.true c.loop-index.invariant (λ e. let on = c.is_colon.ensures.1 e in cc (on, c.if-is_colon.false))

pub returns-then-is_colon : goal.returns-then-is_colon
returns-then-is_colon c = record {
  some = rw take_rest (colon_at c.args.items.now c.loop-index.index c.loop-index-test.true (c.is_colon.ensures.0 c.if-is_colon.true), c.loop-index.invariant);
}

pub returns : goal.returns
returns c = record {
  some = λ ts us e. no_cut (texts c.args.items.now) ts us (subst (λ (xs : List _). HaveNoColon (texts xs)) (all_taken c.args.items.now c.loop-index.index c.loop-index-test.false) c.loop-index.invariant) e;
}
