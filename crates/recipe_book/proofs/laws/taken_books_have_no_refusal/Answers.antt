use Rattle.recipe_book.proofs.OneList.{no_refusal}
use Rattle.recipe_book.proofs.laws.taken_books_have_no_refusal.Goals as goal

pub returns : goal.returns
returns c = no_refusal c.valid_kinds_have_no_refusal.ensures c.states_within_are_not_more.ensures
