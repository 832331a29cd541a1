use Rattle.life_cli.proofs.Written.{tests_passed}
use Rattle.life_cli.proofs.books.test_book.Goals as goal

pub returns-in-Ok-clause-ok : goal.returns-in-Ok-clause-ok
returns-in-Ok-clause-ok g c =
    let is = c.in-Ok.ensures in
    tests_passed c.args.book c.in-Ok.checked c.settings.ensures.checked is.settings is.kinds is.start is.hand is.turns is.salvos
