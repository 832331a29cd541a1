use Rattle.std.proofs.Common.{subst}
use Rattle.find_salvo.specs.Kept.{IsKept}
use Rattle.find_salvo.proofs.Hits.{kept_first, first_lanes}
use Rattle.find_salvo.proofs.salvo_hits.SalvoHits.keep_shared.Goals as goal

pub invariant_of-self : goal.invariant_of-self
invariant_of-self c = kept_first c.shared_lanes-shared.result _ _ _ _ c.self.invariant c.truncate.ensures.items

pub returns-then-shared-len-clause-hits : goal.returns-then-shared-len-clause-hits
returns-then-shared-len-clause-hits c = first_lanes c.shared_lanes-shared.result _ _ _ _ c.truncate.ensures.items c.deref.ensures.value c.shared_lanes-shared.ensures.shared

pub returns-then-shared-len-clause-kept : goal.returns-then-shared-len-clause-kept
returns-then-shared-len-clause-kept c = kept_first c.shared_lanes-shared.result _ _ _ _ c.self.invariant c.truncate.ensures.items

pub returns-else-shared-len-clause-kept : goal.returns-else-shared-len-clause-kept
returns-else-shared-len-clause-kept c = subst IsKept c.self.view_is c.self.invariant
