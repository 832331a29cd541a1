use Rattle.std.proofs.Common.{◌∙◌, refl, inr}
use Rattle.life_words.proofs.Reading.{read_by_clap, refused_by_clap}
use Rattle.life_words.proofs.values.matches_of.Goals as goal

pub returns-in-Ok-clause-ok : goal.returns-in-Ok-clause-ok
returns-in-Ok-clause-ok c = read_by_clap _ c.args.words.now c.args.name.now c.args.count c.in-Ok.matches c.in_ok-command_line.ensures c.requires.some
    c.in-Ok.ensures.kinds c.in-Ok.ensures.matches

pub returns : goal.returns
returns c = record {
  ok = tt;
  err = inr (
    refl,
    refused_by_clap _ c.args.words.now c.args.name.now c.args.count c.in-Err.error c.in_ok-command_line.ensures c.requires.some c.in-Err.ensures.kinds
        (λ memory. c.in_default.not-OutOfMemory (c.kind.ensures ∙ memory)),
  );
}
