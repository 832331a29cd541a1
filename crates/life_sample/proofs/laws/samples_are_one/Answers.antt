use Rattle.std.proofs.Common.{sym, ◌∙◌}
use Rattle.life_sample.proofs.laws.samples_are_one.Goals as goal

-- src/laws.rt:8:1
pub returns : goal.returns
returns c count gap book other is also = λ i. record {
  settings = (is.settings_are ∙ sym also.settings_are) i;
  hand = (is.hand_is ∙ sym also.hand_is) i;
  kinds = (is.kinds_are ∙ sym also.kinds_are) i;
  start = (is.start_is ∙ sym also.start_is) i;
  turns = (is.turns_are ∙ sym also.turns_are) i;
  salvos = (is.salvos_are ∙ sym also.salvos_are) i;
}
