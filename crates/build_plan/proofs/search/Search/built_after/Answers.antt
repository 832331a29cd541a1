use Rattle.build_plan.proofs.Trying.{first_near}
use Rattle.build_plan.proofs.search.Search.built_after.Goals as goal

pub with-requires : goal.with-requires
with-requires c = first_near c.args.self.now c.requires c.index-self-0.result
