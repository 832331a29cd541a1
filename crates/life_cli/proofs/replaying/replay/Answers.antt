use Rattle.std.proofs.Common.{arith}
use Rattle.life_cells.specs.Cells.{alive}
use Rattle.life_cli.specs.Replayed.{IsReplayed}
use Rattle.life_cli.proofs.StageLaws.{behind, answered}
use Rattle.life_cli.proofs.replaying.replay.Goals as goal

pub returns-clause-ends : goal.returns-clause-ends
returns-clause-ends g c =
    let most = c.in_ok-text.ensures.most in
    behind {mid = c.args.steps.now} (alive c.in_ok-pattern.pattern.cells) (λ f. absurd f) c.in_ok-pattern.ensures.ok
    (answered c.args.generations (IsReplayed (alive c.in_ok-pattern.pattern.cells) c.args.generations) ⊥ c.args.steps.now c.text_of_generation.new.steps c.in_ok-text.text
    (record { written = c.in_ok-text.ensures.text; means = c.in_ok-text.ensures.means }) (omega arith))
    (omega arith)
