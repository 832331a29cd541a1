use Rattle.life_cli.proofs.inputs.book_of.Goals as goal

pub returns-in-Ok-clause-ok : goal.returns-in-Ok-clause-ok
returns-in-Ok-clause-ok c = record { says = c.in-Ok.ensures.ok; wide = c.in-Ok.ensures.proper.settings.reach.low }
