use Rattle.life_rle.proofs.Headers.{none_by, rule_at, sign_at}
use Rattle.life_rle.proofs.header.rule_in.Goals as goal

pub returns-in_err-behind_comma-clause-none : goal.returns-in_err-behind_comma-clause-none
returns-in_err-behind_comma-clause-none c = rw c.from_residual.ensures (λ name h. c.in_err-behind_comma.ensures.none h.behind_comma h.comma)

pub returns-in_err-behind_rule-clause-none : goal.returns-in_err-behind_rule-clause-none
returns-in_err-behind_rule-clause-none c = rw c.from_residual-in_err-behind_rule.ensures (λ name h.
    c.in_err-behind_rule.ensures.none h.behind_rule (rule_at c.args.text.now name h c.in_ok-behind_comma.behind_comma.now c.in_ok-behind_comma.ensures.some))

pub returns-clause-none : goal.returns-clause-none
returns-clause-none c = none_by _ _ c.skip_part-3.result
    (λ none name h. none name (sign_at c.args.text.now name h c.in_ok-behind_comma.behind_comma.now c.in_ok-behind_rule.behind_rule.now c.in_ok-behind_comma.ensures.some c.in_ok-behind_rule.ensures.some))
    c.skip_part-3.ensures.none
