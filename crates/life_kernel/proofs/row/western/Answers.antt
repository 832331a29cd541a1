use Rattle.std.proofs.Common.{◌/◌, ◌^◌, ap, ◌∙◌}
use Rattle.life_kernel.specs.Rows.{column}
use Rattle.life_kernel.specs.BitLaws.{west_word, test-shr}
use Rattle.life_kernel.proofs.row.western.Goals as goal

pub returns : goal.returns
returns c end k h = west_word c.args.here (c.args.west / 2 ^ 63) end k h ∙ ap (λ b. column c.args.here b end k) (test-shr 63 0 c.args.west)
