use Rattle.recipe_book.proofs.Indexing.{one_list_of_numbers}
use Rattle.recipe_book.proofs.laws.numbers_under_a_shape_are_one.Goals as goal

pub returns : goal.returns
returns c = one_list_of_numbers
