use Rattle.std.proofs.Common.{ap, ◌∙◌}
use Rattle.book_parts.specs.declared.turn.RawTurn.{RawTurn}
use Rattle.find_order.specs.declared.candidate.Candidate.TheVariants.{Delays}
use Rattle.recipe_turn.specs.Checked.{Checked}
use Rattle.recipe_find.specs.Adding.{delays_of}
use Rattle.recipe_find.proofs.Setting.{gains_mapped}
use Rattle.recipe_find.proofs.known.add_delays.Goals as goal

pub loop-turn-preserved : goal.loop-turn-preserved
loop-turn-preserved c =
    let kind = ap (λ (turn : RawTurn). turn.kind) c.raw-turn.ensures.raw in
    let delays = c.in_ok-copy.ensures ∙ ap (λ (turn : RawTurn). turn.delays) c.raw-turn.ensures.raw in
    gains_mapped delays_of (λ (turn : Checked). turn.raw) c.args.candidates.now.keys c.loop-turn.candidates.keys _ c.args.turns.now c.loop-turn.turn-index c.turn-item.result (Delays c.raw-turn.result.now.kind c.in_ok-copy.field-0)
    c.loop-turn-test.true c.turn-item.is (λ i. Delays (kind i) (delays i)) c.loop-turn.invariant c.in_ok-insert.ensures.keys
