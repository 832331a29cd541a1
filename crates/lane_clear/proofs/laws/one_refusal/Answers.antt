use Rattle.lane_clear.specs.RefusalLaws.{one_refusal}
use Rattle.lane_clear.proofs.laws.one_refusal.Goals as goal

pub returns : goal.returns
returns c = one_refusal
