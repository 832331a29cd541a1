use Rattle.life_cli.proofs.Exactness.{PartsAreExact, commands_are_exact}
use Rattle.life_cli.proofs.laws.stages_are_exact.Goals as goal

pub returns : goal.returns
returns c =
    let exact : PartsAreExact = record {
      one_book = c.texts_say_one_book.ensures;
      book_read = c.books_have_no_refusal.ensures;
      one_plane = c.texts_mean_one_plane.ensures;
      pattern_read = c.fine_texts_have_no_refusal.ensures;
      target_taken = c.targets_have_no_refusal.ensures;
      one_turns = c.sound_turns_are_one.ensures;
      one_salvos = c.sound_salvos_are_one.ensures;
      one_hits = c.salvos_have_one_list_of_hits.ensures;
      book_taken = c.taken_books_have_no_refusal.ensures;
      one_whole = c.extended_books_are_one.ensures;
      not_full = c.books_with_room_are_not_refused.ensures;
      one_sample = c.samples_are_one.ensures;
      no_stop = c.plans_have_no_stop.ensures;
    } in
    commands_are_exact exact
