use Rattle.recipe_find.proofs.OneWhole.{not_refused}
use Rattle.recipe_find.proofs.laws.books_with_room_are_not_refused.Goals as goal

pub returns : goal.returns
returns c = not_refused c.extended_books_are_one.ensures
