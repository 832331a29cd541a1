use Rattle.recipe_book.specs.Entries.{IsSoundIn}
use Rattle.recipe_book.specs.EntryLaws.{those_once}
use Rattle.recipe_book.proofs.laws.sound_turns_are_one.Goals as goal

pub returns : goal.returns
returns c = λ settings kinds. those_once (IsSoundIn settings kinds)
