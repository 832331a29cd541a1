use Rattle.std.proofs.Common.{inr}
use Rattle.life_words.proofs.Beginning.{no_command}
use Rattle.life_words.proofs.read.read_command.Goals as goal

pub returns-in_default-clause-err : goal.returns-in_default-clause-err
returns-in_default-clause-err c =
    let known = c.in_default in
    inr (record {
      first = c.args.name.now;
      rest = c.requires.0;
      begin = c.requires.1;
      unknown = no_command c.args.name.now known.not-check known.not-extend known.not-compile known.not-certify known.not-audit known.not-replay known.not-sample;
    })
