use Rattle.std.proofs.Common.{◌∙◌, ap, subst, sym, Some}
use Rattle.find_salvo.specs.Memo.{IsCache, IsMemo}
use Rattle.find_salvo.proofs.Remembering.{answer_found, cache_promoted}
use Rattle.find_salvo.proofs.memo.HitMemo.recall.Goals as goal

pub invariant_of-self-in_default-get : goal.invariant_of-self-in_default-get
invariant_of-self-in_default-get c =
    subst IsCache (sym c.get.follows.holds-at-none) (cache_promoted _ c.args.strike.now (subst IsMemo c.in-Some.is c.self.invariant))

pub invariant_of-self-in_err-copy_of : goal.invariant_of-self-in_err-copy_of
invariant_of-self-in_err-copy_of c =
    subst IsCache (sym c.get.follows.holds-at-none) (cache_promoted _ c.args.strike.now (subst IsMemo c.in-Some.is c.self.invariant))

pub invariant_of-self-2 : goal.invariant_of-self-2
invariant_of-self-2 c =
    subst IsCache (sym c.get.follows.holds-at-none) (cache_promoted _ c.args.strike.now (subst IsMemo c.in-Some.is c.self.invariant))

pub returns : goal.returns
returns c =
    answer_found _ c.args.strike.now _ (subst IsMemo c.in-Some.is c.self.invariant) (sym c.in-Some-get.ensures.value ∙ ap Some (sym c.in_ok-copy_of.ensures))
