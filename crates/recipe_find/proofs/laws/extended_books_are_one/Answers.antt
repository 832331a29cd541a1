use Rattle.recipe_find.proofs.OneWhole.{one_whole}
use Rattle.recipe_find.proofs.laws.extended_books_are_one.Goals as goal

pub returns : goal.returns
returns c = one_whole c.lanes_have_one_outcome.ensures c.one_turn_is_the_least.ensures
