use Rattle.std.proofs.Common.{subst, sym, List, ℕ}
use Rattle.std.proofs.lemmas.Result.{err_from_is_err_and}
use Rattle.life_cells.specs.Cells.{Cells}
use Rattle.book_parts.specs.declared.kind.RawKind.{RawKind}
use Rattle.book_parts.specs.Said.{Said}
use Rattle.book_parts.specs.Proper.{IsProperBook}
use Rattle.recipe_turn.specs.Checked.{Checked}
use Rattle.recipe_turn.specs.Checked.{raws}
use Rattle.elbow_graph.specs.States.{HasStates}
use Rattle.recipe_hit.specs.Checked.{Struck}
use Rattle.recipe_book.specs.Entries.{AreTheSound}
use Rattle.recipe_book.specs.ByShape.{IsIndex}
use Rattle.recipe_book.specs.Refusals.{BookIsRefused, StatesRefuse}
use Rattle.recipe_book.specs.Checked.{IsCheckedBook}
use Rattle.book_parts.specs.declared.limits.TheConstants.{MOST_STATES}
use Rattle.recipe_book.proofs.Refusing.{states_refuse}
use Rattle.recipe_book.proofs.AcceptedPart.{those_are_part, proper_part}
use Rattle.recipe_book.proofs.Whole.{turns_checked, turns_own, salvos_checked, salvos_own}
use Rattle.recipe_book.proofs.checking.check_book.Goals as goal

pub returns-in_err-check_states-clause-refusal : goal.returns-in_err-check_states-clause-refusal
returns-in_err-check_states-clause-refusal g c =
    let p = err_from_is_err_and c.from_residual-in_err-check_states.result c.from_residual-in_err-check_states.ensures.1 in
    let book : Said = record { settings = c.book.inside.settings; hand = c.book.inside.hand; kinds = c.book.inside.kinds.items; start = c.book.inside.start; turns = c.book.inside.turns.items; salvos = c.book.inside.salvos.items } in
    rw (p.1, p.2)
    (subst (λ (b : Said). BookIsRefused b.settings b.hand b.kinds b.start b.turns c.in_err-check_states.field-0.0) c.book.view_is
    (states_refuse book (raws c.in_ok-turns.turns.items) _ c.in_ok-kinds.ensures.valid c.in_ok-hand.ensures.still
    (subst (λ (kinds : List RawKind). AreTheSound c.book.inside.settings kinds c.book.inside.turns.items (raws c.in_ok-turns.turns.items)) c.in_ok-kinds.ensures.kinds c.in_ok-turns.ensures.sound)
    (subst (λ (turns : List Checked). StatesRefuse (raws turns) c.book.inside.start c.book.inside.settings.span c.in_err-check_states.field-0.0) c.deref.ensures.value c.in_err-check_states.ensures.err)))

pub invariant_of-checked : goal.invariant_of-checked
invariant_of-checked g c =
    let proper = subst IsProperBook (sym c.book.view_is) c.requires in (
      c.in_ok-kinds.ensures.settings,
      (
        subst (λ (salvos : List Struck). IsIndex salvos c.in_ok-index.index.entries) c.deref-2.ensures.value c.in_ok-index.ensures,
        subst (λ (hand : Cells). IsCheckedBook (record { settings = c.book.inside.settings; kinds = c.in_ok-kinds.kinds.raw; start = c.book.inside.start; hand = hand; turns = c.in_ok-turns.turns.items; salvos = c.in_ok-salvos.salvos.items }))
            (sym c.in_ok-hand.ensures.same)
            (rw c.in_ok-kinds.ensures.kinds record {
              proper = proper_part _ _ _
                  (those_are_part _ _ _ c.in_ok-turns.ensures.sound)
                  (those_are_part _ _ _ c.in_ok-salvos.ensures.sound) proper;
              valid = c.in_ok-kinds.ensures.valid;
              still = c.in_ok-hand.ensures.still;
              turns = turns_checked _ _ _ c.in_ok-turns.ensures.kept;
              own = rw (← c.in_ok-kinds.ensures.kinds) (turns_own _ _ _ c.in_ok-turns.ensures.kept);
              salvos = salvos_checked _ _ c.in_ok-salvos.ensures.kept;
              own_salvos = rw (← c.in_ok-hand.ensures.same) (salvos_own _ _ c.in_ok-salvos.ensures.kept);
              states = subst (λ (turns : List Checked). (count : ℕ) × HasStates (raws turns) c.book.inside.start c.book.inside.settings.span MOST_STATES count) c.deref.ensures.value c.in_ok-check_states.ensures.states;
            }),
      ),
    )
