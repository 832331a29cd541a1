use Rattle.lane_clear.specs.RefusalLaws.{clear_has_none}
use Rattle.lane_clear.proofs.laws.clear_hits_have_no_refusal.Goals as goal

pub returns : goal.returns
returns c = clear_has_none
