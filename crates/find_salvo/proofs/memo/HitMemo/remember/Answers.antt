use Rattle.std.proofs.Common.{subst}
use Rattle.find_salvo.specs.Memo.{IsMemo}
use Rattle.find_salvo.proofs.Remembering.{cache_put}
use Rattle.find_salvo.proofs.memo.HitMemo.remember.Goals as goal

pub invariant_of-self-in-Some : goal.invariant_of-self-in-Some
invariant_of-self-in-Some c =
    cache_put c.put.result _ _ c.args.strike c.args.made (subst IsMemo c.in-Some.is c.self.invariant) c.requires c.put.ensures.entries c.put.ensures.err
