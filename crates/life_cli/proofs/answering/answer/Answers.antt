use Rattle.std.proofs.Common.{sym}
use Rattle.life_cli.specs.Sampled.{sample}
use Rattle.life_cli.proofs.StageLaws.{no_text}
use Rattle.life_cli.proofs.answering.answer.Goals as goal

pub returns-in-Check-clause-ends : goal.returns-in-Check-clause-ends
returns-in-Check-clause-ends g c = rw (c.in-Check.is, sym c.text.ensures) c.check.ensures.ends

pub returns-in-Compile-clause-ends : goal.returns-in-Compile-clause-ends
returns-in-Compile-clause-ends g c = rw (c.in-Compile.is, sym c.text-in-Compile.ensures, sym c.text-in-Compile-2.ensures) c.compile.ensures.ends

pub returns-in-Extend-clause-ends : goal.returns-in-Extend-clause-ends
returns-in-Extend-clause-ends g c = rw (c.in-Extend.is, sym c.text-in-Extend.ensures) c.extend.ensures.ends

pub returns-in-Sample-clause-ends : goal.returns-in-Sample-clause-ends
returns-in-Sample-clause-ends g c = rw c.in-Sample.is (no_text (sample c.in-Sample.count c.in-Sample.gap) _ c.args.steps.now c.sample.new.steps c.sample.result c.sample.ensures.ends)
