use Rattle.std.proofs.Common.{ap, ◌∙◌}
use Rattle.book_parts.specs.declared.salvo.RawSalvo.{RawSalvo}
use Rattle.find_order.specs.declared.candidate.Candidate.TheVariants.{Lanes}
use Rattle.recipe_hit.specs.Checked.{Struck}
use Rattle.recipe_find.specs.Adding.{lanes_of}
use Rattle.recipe_find.proofs.Setting.{gains_mapped}
use Rattle.recipe_find.proofs.known.add_lanes.Goals as goal

pub loop-salvo-preserved : goal.loop-salvo-preserved
loop-salvo-preserved c =
    gains_mapped lanes_of (λ (salvo : Struck). salvo.raw) c.args.candidates.now.keys c.loop-salvo.candidates.keys _ c.args.salvos.now c.loop-salvo.salvo-index c.salvo-item.result (Lanes c.in_ok-copy.field-0)
    c.loop-salvo-test.true c.salvo-item.is (ap Lanes (c.in_ok-copy.ensures ∙ ap (λ (salvo : RawSalvo). salvo.lanes) c.raw.ensures.raw)) c.loop-salvo.invariant c.in_ok-insert.ensures.keys
