use Rattle.std.proofs.Common.{◌∙◌, sym, refl}
use Rattle.std.proofs.lemmas.Bool.{false≢true}
use Rattle.std.specs.Cmp.Lexicographic.{same_text, other_text}
use Rattle.book_read.proofs.Searches.{below_first, below_next, none_of_below, not_at_place, found_at}
use Rattle.book_read.proofs.named.is_new_name.Goals as goal

pub loop-entry-init : goal.loop-entry-init
loop-entry-init g c = below_first g.T.Named.name_of c.args.entries.now c.args.name.now

pub returns-then-eq : goal.returns-then-eq
returns-then-eq g c = (
  λ e. absurd (false≢true e),
  λ none. absurd (not_at_place g.T.Named.name_of c.args.entries.now c.args.name.now c.loop-entry.entry-index c.entry-item.result none (found_at c.args.entries.now c.loop-entry.entry-index c.entry-item.result c.loop-entry-test.true c.entry-item.is) (sym (c.text.ensures ∙ c.name.ensures) ∙ same_text _ _ c.if-eq.ensures)),
)

pub loop-entry-preserved : goal.loop-entry-preserved
loop-entry-preserved g c = below_next g.T.Named.name_of c.args.entries.now c.args.name.now c.loop-entry.entry-index c.entry-item.result c.loop-entry.invariant c.loop-entry-test.true c.entry-item.is (λ e. other_text _ _ c.if-eq.ensures (c.text.ensures ∙ c.name.ensures ∙ e))

pub returns : goal.returns
returns g c = (λ _. none_of_below g.T.Named.name_of c.args.entries.now c.args.name.now c.loop-entry.entry-index c.loop-entry.invariant c.loop-entry-test.false, λ _. refl)
