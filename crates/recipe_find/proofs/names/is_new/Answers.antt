use Rattle.std.proofs.Common.{sym, subst, ◌∙◌, true≢false}
use Rattle.book_parts.specs.Proper.{IsNoneOf}
use Rattle.recipe_find.proofs.Searching.{none_of_front, none_of_back, none_of_both, turn_names, salvo_names}
use Rattle.recipe_find.proofs.names.is_new.Goals as goal

pub returns-then-is_new_to_turns : goal.returns-then-is_new_to_turns
returns-then-is_new_to_turns c =
    let turns = c.is_new_to_turns.ensures.0 c.if-is_new_to_turns.true in (
      λ h. none_of_both _ _ _ (subst (λ ts. IsNoneOf (turn_names ts) c.args.name.now) c.turns.ensures turns) (subst (λ ss. IsNoneOf (salvo_names ss) c.args.name.now) c.salvos.ensures (c.is_new_to_salvos.ensures.0 h)),
      λ none. c.is_new_to_salvos.ensures.1 (subst (λ ss. IsNoneOf (salvo_names ss) c.args.name.now) (sym c.salvos.ensures) (none_of_back (turn_names c.args.book.now.turns) (salvo_names c.args.book.now.salvos) c.args.name.now none)),
    )

pub returns-else-is_new_to_turns : goal.returns-else-is_new_to_turns
returns-else-is_new_to_turns c = (
  λ h. absurd (true≢false (sym h ∙ c.if-is_new_to_turns.false)),
  λ none. c.is_new_to_turns.ensures.1 (subst (λ ts. IsNoneOf (turn_names ts) c.args.name.now) (sym c.turns.ensures) (none_of_front (turn_names c.args.book.now.turns) (salvo_names c.args.book.now.salvos) c.args.name.now none)),
)
