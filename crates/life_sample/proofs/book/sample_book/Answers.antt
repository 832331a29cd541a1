use Rattle.std.proofs.Common.{rules}
use Rattle.life_sample.proofs.Properness.{sample_proper}
use Rattle.life_sample.proofs.book.sample_book.Goals as goal

-- src/book.rt:45:1
pub returns-clause-proper : goal.returns-clause-proper
returns-clause-proper c = sample_proper c.args.count c.args.gap _ c.requires.some c.requires.few c.requires.wide c.requires.near (search rules)
