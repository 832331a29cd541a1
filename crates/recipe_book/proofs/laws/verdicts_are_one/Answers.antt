use Rattle.recipe_book.proofs.OneList.{one_list_of_verdicts}
use Rattle.recipe_book.proofs.laws.verdicts_are_one.Goals as goal

pub returns : goal.returns
returns c = one_list_of_verdicts record {
  sound_turns = c.sound_turns_have_no_refusal.ensures;
  one_of_turns = c.turns_have_one_refusal.ensures;
  sound_salvos = c.sound_salvos_have_no_refusal.ensures;
  one_of_salvos = c.salvos_have_one_refusal.ensures;
}
