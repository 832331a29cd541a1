use Rattle.recipe_book.proofs.OneList.{one_refusal}
use Rattle.recipe_book.proofs.laws.books_have_one_refusal.Goals as goal

pub returns : goal.returns
returns c = one_refusal record { valid = c.valid_kinds_have_no_refusal.ensures; one = c.kinds_have_one_refusal.ensures }
