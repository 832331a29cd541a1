use Rattle.std.proofs.Common.{sym, ap, ◌∙◌}
use Rattle.std.proofs.lemmas.Bool.{false≢true}
use Rattle.std.specs.Cmp.Lexicographic.{same_text, other_text}
use Rattle.book_parts.specs.declared.turn.RawTurn.{RawTurn}
use Rattle.recipe_find.proofs.Searching.{none_more, some_has}
use Rattle.recipe_find.proofs.names.is_new_to_turns.Goals as goal

pub returns-then-eq : goal.returns-then-eq
returns-then-eq c = (
  λ e. absurd (false≢true e),
  λ none. absurd (some_has _ _ c.args.turns.now c.args.name.now c.loop-turn.turn-index c.turn-item.result c.loop-turn-test.true c.turn-item.is (sym (c.text.ensures ∙ ap (λ (turn : RawTurn). turn.name) c.raw.ensures.raw) ∙ same_text _ _ c.if-eq.ensures) none),
)

pub loop-turn-preserved : goal.loop-turn-preserved
loop-turn-preserved c =
    none_more _ _ c.args.turns.now c.args.name.now c.loop-turn.turn-index c.turn-item.result c.loop-turn-test.true c.turn-item.is c.loop-turn.invariant
    (λ e. other_text _ _ c.if-eq.ensures (c.text.ensures ∙ ap (λ (turn : RawTurn). turn.name) c.raw.ensures.raw ∙ e))
