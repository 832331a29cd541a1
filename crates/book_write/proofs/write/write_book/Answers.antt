-- The text was appended, and it reads back.
use Rattle.std.proofs.Common.{◌≡◌, ◌++◌, ◌∙◌, ap, List, ℕ}
use Rattle.book_write.proofs.Following.{book_reads_back}
use Rattle.book_write.proofs.write.write_book.Goals as goal

pub returns : goal.returns
returns c =
    let text : List ℕ = c.in_ok-text.text.items in
    let appended : c.extend_from_slice.new.self.items ≡ c.args.into.now.items ++ text = c.in_ok-extend_from_slice.ensures.items ∙ ap (λ (t : List ℕ). c.args.into.now.items ++ t) c.deref.ensures.value in
    record {
      ok = (text, (appended, c.in_ok-text.ensures));
      read_back = (text, (appended, book_reads_back c.args.book.now text c.requires.proper c.in_ok-text.ensures));
      err = tt;
    }
