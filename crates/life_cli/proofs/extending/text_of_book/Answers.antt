use Rattle.book_text.specs.Book.{Says, IsBookText}
use Rattle.life_cli.proofs.Appended.{all_appended}
use Rattle.life_cli.proofs.extending.text_of_book.Goals as goal

pub returns : goal.returns
returns c =
    let settings = c.requires.settings in
    record {
      written = all_appended _ _ (IsBookText c.args.book.now) c.new-text.ensures.items c.in_ok-write_book.ensures.ok;
      read_back = record { says = all_appended _ _ (λ text. Says text c.args.book.now) c.new-text.ensures.items c.in_ok-write_book.ensures.read_back; wide = settings.reach.low };
    }
