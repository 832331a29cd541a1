use Rattle.recipe_hit.specs.Sound.{IsSoundSalvo}
use Rattle.recipe_book.specs.EntryLaws.{those_once}
use Rattle.recipe_book.proofs.laws.sound_salvos_are_one.Goals as goal

pub returns : goal.returns
returns c = λ hand. those_once (IsSoundSalvo hand)
