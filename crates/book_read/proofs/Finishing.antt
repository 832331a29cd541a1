-- From the parts of a text to the text.
use Rattle.std.proofs.Common.{◌≡◌, ◌≢◌, ℕ, ◌+ℤ◌, ◌≤ℤ◌, List, [], Result, Ok, Err, IfOk, IfErr, sym, subst}
use Rattle.std.specs.Str.Lines.{lines}
use Rattle.book_parts.specs.Proper.{IsProperBook}
use Rattle.book_read.proofs.Sound.{text_proper}
use Rattle.book_lines.specs.declared.fault.LineFault.{LineFault}
use Rattle.book_lines.specs.declared.fault.LineFault.TheVariants as fault
use Rattle.book_read.specs.declared.error.BookError.{BookError}
use Rattle.book_read.specs.declared.error.BookError.TheVariants.{BadLine, Doubled, UnknownKind, LimitOver, Missing, WallReach, Memory}
use Rattle.book_read.specs.Stated.{Stated, nothing_stated}
use Rattle.book_read.specs.Reading.{AreFine, IsBegun}
use Rattle.book_read.specs.Book.{Said, whole, AreRead, Says, StopsWith}
use Rattle.book_read.specs.Drafted.{IsBodyRefusal, IsVersionRefusal, IsUnfinished}
use Rattle.book_parts.specs.declared.limits.TheConstants.{WALL_MARGIN}

pub begun_refused : (text : List ℕ) (e : BookError) → IsVersionRefusal (lines text) e → StopsWith text e
begun_refused text Memory h = tt
begun_refused text (BadLine line why) h = subst (λ (w : LineFault). StopsWith text (BadLine line w)) (sym h.0) h.1
begun_refused text (Doubled line) h = absurd h
begun_refused text (UnknownKind line) h = absurd h
begun_refused text (LimitOver line z) h = absurd h
begun_refused text (Missing word) h = absurd h
begun_refused text (WallReach wall reach) h = absurd h

pub draft_refused : (text : List ℕ) (number : ℕ) (body : List (List ℕ)) (e : BookError) → IsBegun (lines text) number body → IsBodyRefusal number body e → StopsWith text e
draft_refused text number body Memory b h = tt
draft_refused text number body (BadLine line fault.Version) b h = absurd h.refused.1.1
draft_refused text number body (BadLine line fault.Word) b h = record { number = number; body = body; begun = b; refused = h }
draft_refused text number body (BadLine line fault.Form) b h = record { number = number; body = body; begun = b; refused = h }
draft_refused text number body (BadLine line fault.Number) b h = record { number = number; body = body; begun = b; refused = h }
draft_refused text number body (BadLine line fault.Body) b h = record { number = number; body = body; begun = b; refused = h }
draft_refused text number body (BadLine line fault.Empty) b h = record { number = number; body = body; begun = b; refused = h }
draft_refused text number body (Doubled line) b h = record { number = number; body = body; begun = b; refused = h }
draft_refused text number body (UnknownKind line) b h = record { number = number; body = body; begun = b; refused = h }
draft_refused text number body (LimitOver line z) b h = record { number = number; body = body; begun = b; refused = h }
draft_refused text number body (Missing word) b h = absurd h.refused
draft_refused text number body (WallReach wall reach) b h = absurd h.refused

pub read_of : (text : List ℕ) (number : ℕ) (body : List (List ℕ)) (stated : Stated) → IsBegun (lines text) number body → AreFine nothing_stated body stated → AreRead (lines text) stated
read_of text number body stated b f = record { number = number; body = body; begun = b; fine = f }

unfinished_refused : (text : List ℕ) (stated : Stated) (e : BookError) → AreRead (lines text) stated → IsUnfinished stated e → StopsWith text e
unfinished_refused text stated (Missing word) r h = (stated, (r, h))
unfinished_refused text stated (WallReach wall reach) r h =
    (h.0, (record { read = subst (λ (s : Stated). AreRead (lines text) s) h.1.0 r; some_kind = h.1.1.0 }, (h.1.1.1.0, (h.1.1.1.1.0, h.1.1.1.1.1))))
unfinished_refused text stated Memory r h = absurd h
unfinished_refused text stated (BadLine line why) r h = absurd h
unfinished_refused text stated (Doubled line) r h = absurd h
unfinished_refused text stated (UnknownKind line) r h = absurd h
unfinished_refused text stated (LimitOver line z) r h = absurd h

pub finished_err : (text : List ℕ) (stated : Stated) (r : Result Said BookError) → AreRead (lines text) stated → IfErr r (λ e. IsUnfinished stated e) → IfErr r (λ e. StopsWith text e)
finished_err text stated (Ok book) read h = tt
finished_err text stated (Err e) read h = unfinished_refused text stated e read h

pub finished_ok : (text : List ℕ) (stated : Stated) (r : Result Said BookError) → AreRead (lines text) stated → IfOk r (λ book. (stated ≡ whole book) × (book.kinds ≢ [])) → IfOk r (λ book. Says text book)
finished_ok text stated (Ok book) read h = record { read = subst (λ (s : Stated). AreRead (lines text) s) h.0 read; some_kind = h.1 }
finished_ok text stated (Err e) read h = tt

pub finished_proper : (text : List ℕ) (r : Result Said BookError) → IfOk r (λ book. Says text book) → IfOk r (λ book. (book.settings.wall +ℤ WALL_MARGIN) ≤ℤ book.settings.reach) → IfOk r (λ book. IsProperBook book)
finished_proper text (Ok book) h far = text_proper text book h far
finished_proper text (Err e) h far = tt
