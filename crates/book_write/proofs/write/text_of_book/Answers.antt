-- The lines, one part after the other.
use Rattle.std.proofs.Common.{◌≡◌, ◌++◌, ◌∷◌, [], List, ℕ, map, refl, ◌∙◌, ap, subst}
use Rattle.std.specs.List.{AllZip}
use Rattle.book_parts.specs.Said.{Said}
use Rattle.book_parts.specs.declared.kind.RawKind.{RawKind}
use Rattle.book_parts.specs.declared.turn.RawTurn.{RawTurn}
use Rattle.book_parts.specs.declared.salvo.RawSalvo.{RawSalvo}
use Rattle.book_write.specs.Canonical.{IsBookText}
use Rattle.book_write.specs.Laid.{ended_line, text_of}
use Rattle.book_write.specs.Parts.{version_words, settings_words, IsKindLine, start_words, turn_words, IsSalvoLine}
use Rattle.book_write.proofs.Laying.{grouped, lines_laid, one_line}
use Rattle.book_write.proofs.write.text_of_book.Goals as goal

pub returns : goal.returns
returns c =
    let hand = c.in_ok-push_hand.ensures in
    let kinds = c.in_ok-push_kinds.ensures in
    let salvos = c.in_ok-push_salvos.ensures in
    let start = subst (λ (ks : List RawKind). c.push_start.new.text.items ≡ c.push_kinds.new.text.items ++ ended_line (start_words ks c.book.inside.start)) c.deref-2.ensures.value c.in_ok-push_start.ensures in
    let some_turns = subst (λ (ts : List RawTurn). c.push_turns.new.text.items ≡ c.push_start.new.text.items ++ text_of (map (turn_words c.deref-3.result.now) ts)) c.deref-4.ensures.value c.in_ok-push_turns.ensures in
    let turns = subst (λ (ks : List RawKind). c.push_turns.new.text.items ≡ c.push_start.new.text.items ++ text_of (map (turn_words ks) c.book.inside.turns.items)) c.deref-3.ensures.value some_turns in
    let groups = (version_words ∷ []) ∷ (settings_words c.book.inside.settings ∷ ((hand.0 ∷ []) ∷ (kinds.0 ∷ ((start_words c.book.inside.kinds.items c.book.inside.start ∷ []) ∷ (map (turn_words c.book.inside.kinds.items) c.book.inside.turns.items ∷ (salvos.0 ∷ [])))))) in
    subst (λ (b : Said). IsBookText b c.push_salvos.new.text.items) c.book.view_is
    record {
      hand = hand.0;
      kinds = kinds.0;
      salvos = salvos.0;
      hand_is = hand.1.1;
      kinds_are = subst (λ (ks : List RawKind). AllZip IsKindLine ks kinds.0) c.deref.ensures.value kinds.1.1;
      salvos_are = subst (λ (ss : List RawSalvo). AllZip IsSalvoLine ss salvos.0) c.deref-5.ensures.value salvos.1.1;
      whole =
          lines_laid _ _ groups (
            _,
            (
              one_line _ _ version_words c.in_ok-push_version.ensures,
              (
                _,
                (
                  c.in_ok-push_settings.ensures,
                  (
                    _,
                    (
                      one_line _ _ hand.0 hand.1.0,
                      (
                        _,
                        (
                          kinds.1.0,
                          (_, (one_line _ _ (start_words c.book.inside.kinds.items c.book.inside.start) start, (_, (turns, (_, (salvos.1.0, refl)))))),
                        ),
                      ),
                    ),
                  ),
                ),
              ),
            ),
          )
          ∙ ap (λ (t : List ℕ). t ++ text_of (grouped groups)) c.new-text.ensures.items;
    }
