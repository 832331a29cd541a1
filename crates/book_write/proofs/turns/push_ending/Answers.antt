-- The words of a thrown glider, one group after the other.
use Rattle.std.proofs.Common.{◌≡◌, ◌++◌, ◌∷◌, [], sym, subst, refl, codes, rules, w64, FitsSigned, OnOk}
use Rattle.std.specs.Fmt.{signed_decimal}
use Rattle.std.proofs.lemmas.Int.{to_z-of_z}
use Rattle.std.proofs.lemmas.Result.{on_ok_weaker}
use Rattle.book_parts.specs.declared.turn.TurnEnd.{TurnEnd}
use Rattle.book_write.specs.Laid.{spaced}
use Rattle.book_write.specs.Parts.{kind_name, step_words, ending_words}
use Rattle.book_write.proofs.Laying.{words_laid}
use Rattle.book_write.proofs.turns.push_ending.Goals as goal

pub returns-in_ok-push_step-in-Emit : goal.returns-in_ok-push_step-in-Emit
returns-in_ok-push_step-in-Emit c =
    let shift_fits : FitsSigned w64 c.in-Emit.shift = search rules in
    let lane_fits : FitsSigned w64 c.in-Emit.lane = search rules in
    let j_fits : FitsSigned w64 c.in-Emit.j = search rules in
    let step = simp to_z-of_z at (rw c.name_of-in-Emit.ensures at c.in_ok-push_step-in-Emit.ensures) in
    subst (λ (end : TurnEnd). OnOk c.push_glider.result (c.push_glider.new.text.items ≡ c.args.text.now.items ++ spaced (ending_words c.args.kinds.now end c.args.n))) (sym c.in-Emit.is)
    (on_ok_weaker c.push_glider.result (λ e. words_laid _ _ ((codes "emit" ∷ []) ∷ (step_words (kind_name c.args.kinds.now c.in-Emit.kind) c.in-Emit.shift c.args.n ∷ ((signed_decimal c.in-Emit.lane ∷ (signed_decimal c.in-Emit.j ∷ [])) ∷ [])))
    (_, (c.in_ok-push_word-in-Emit.ensures, (_, (step, (_, (simp to_z-of_z at e, refl)))))))
    c.push_glider.ensures)
