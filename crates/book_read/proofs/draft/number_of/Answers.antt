use Rattle.std.proofs.Common.{◌≡◌, ◌+◌, arith, ap, sym, ◌∙◌, Some}
use Rattle.book_read.proofs.draft.number_of.Goals as goal
use Rattle.std.specs.Cmp.Lexicographic.{same_text, other_text}
use Rattle.book_read.proofs.Searches.{below_first, below_next, none_of_below, found_at}
use Rattle.book_read.proofs.Numbered.{name_of, none_numbered, one_numbered}

pub loop-index-init : goal.loop-index-init
loop-index-init c = below_first name_of c.args.kinds.now c.args.name.now

pub returns-then-eq : goal.returns-then-eq
returns-then-eq c =
    let number : 1 + c.loop-index.index ≡ c.loop-index.index + 1 = omega arith in
    sym (one_numbered 1 c.args.kinds.now c.args.name.now c.loop-index.index c.index-kinds-index.result c.loop-index.invariant
    (found_at c.args.kinds.now c.loop-index.index c.index-kinds-index.result c.loop-index-test.true c.index-kinds-index.is) (sym c.text.ensures ∙ same_text _ _ c.if-eq.ensures) ∙ ap Some number)

pub loop-index-preserved : goal.loop-index-preserved
loop-index-preserved c = below_next name_of c.args.kinds.now c.args.name.now c.loop-index.index c.index-kinds-index.result c.loop-index.invariant c.loop-index-test.true c.index-kinds-index.is (λ e. other_text _ _ c.if-eq.ensures (c.text.ensures ∙ e))

pub returns : goal.returns
returns c = sym (none_numbered 1 c.args.kinds.now c.args.name.now (none_of_below name_of c.args.kinds.now c.args.name.now c.loop-index.index c.loop-index.invariant c.loop-index-test.false))
