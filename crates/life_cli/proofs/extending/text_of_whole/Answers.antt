use Rattle.std.proofs.Common.{arith}
use Rattle.life_cli.specs.Extended.{IsWholeText}
use Rattle.life_cli.proofs.StageLaws.{behind, answered}
use Rattle.life_cli.proofs.extending.text_of_whole.Goals as goal

pub returns-clause-ends : goal.returns-clause-ends
returns-clause-ends g c =
    let last = c.find.new.steps in
    let few = c.in_ok-whole.ensures.most in
    behind {mid = last} c.in_ok-whole.whole (λ f. f) c.in_ok-whole.ensures.ok (answered 0 (IsWholeText c.in_ok-whole.whole) ⊥ last last c.in_ok-text.text c.in_ok-text.ensures (omega arith)) (omega arith)
