use Rattle.std.proofs.lemmas.Bool.{false≢true}
use Rattle.life_rle.proofs.Lined.{some_of_false}
use Rattle.life_rle.proofs.Headers.{form_with_rule, no_header_with, no_form_with}
use Rattle.life_rle.proofs.header.form_of.Goals as goal

pub returns-in_default : goal.returns-in_default
returns-in_default c = λ h. c.in_default.ensures.none h.rest h.size

pub returns-in-Some-2 : goal.returns-in-Some-2
returns-in-Some-2 c =
    let some = some_of_false c.in-Some.rest.now c.if-is_empty.ensures in
    let rule = c.in-Some-rule_in.ensures.some in (
      form_with_rule c.args.line.now c.in-Some.rest.now c.in-Some-rule_in.name.now c.in-Some.ensures.some rule,
      no_header_with c.args.line.now c.in-Some.rest.now c.in-Some-rule_in.name.now c.in-Some.ensures.some rule some (λ life. false≢true (c.if-names_life.ensures.1 life)),
    )

pub returns-in-None : goal.returns-in-None
returns-in-None c = no_form_with c.args.line.now c.in-Some.rest.now c.in-Some.ensures.some (some_of_false c.in-Some.rest.now c.if-is_empty.ensures) c.in-None.ensures.none
