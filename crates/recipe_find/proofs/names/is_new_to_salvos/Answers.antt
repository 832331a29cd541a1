use Rattle.std.proofs.Common.{sym, ap, ◌∙◌}
use Rattle.std.proofs.lemmas.Bool.{false≢true}
use Rattle.std.specs.Cmp.Lexicographic.{same_text, other_text}
use Rattle.book_parts.specs.declared.salvo.RawSalvo.{RawSalvo}
use Rattle.recipe_find.proofs.Searching.{none_more, some_has}
use Rattle.recipe_find.proofs.names.is_new_to_salvos.Goals as goal

pub returns-then-eq : goal.returns-then-eq
returns-then-eq c = (
  λ e. absurd (false≢true e),
  λ none. absurd (some_has _ _ c.args.salvos.now c.args.name.now c.loop-salvo.salvo-index c.salvo-item.result c.loop-salvo-test.true c.salvo-item.is (sym (c.text.ensures ∙ ap (λ (salvo : RawSalvo). salvo.name) c.raw.ensures.raw) ∙ same_text _ _ c.if-eq.ensures) none),
)

pub loop-salvo-preserved : goal.loop-salvo-preserved
loop-salvo-preserved c =
    none_more _ _ c.args.salvos.now c.args.name.now c.loop-salvo.salvo-index c.salvo-item.result c.loop-salvo-test.true c.salvo-item.is c.loop-salvo.invariant
    (λ e. other_text _ _ c.if-eq.ensures (c.text.ensures ∙ ap (λ (salvo : RawSalvo). salvo.name) c.raw.ensures.raw ∙ e))
