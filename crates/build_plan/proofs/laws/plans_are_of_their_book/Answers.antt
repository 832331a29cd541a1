use Rattle.build_plan.proofs.OfBook.{plan_of_book}
use Rattle.build_plan.proofs.laws.plans_are_of_their_book.Goals as goal

pub returns : goal.returns
returns c = plan_of_book
