-- A space and a word.
use Rattle.std.proofs.Common.{ℕ, [], ◌∷◌, refl}
use Rattle.std.proofs.lemmas.List.{append_assoc, append-nil}
use Rattle.std.proofs.lemmas.Result.{on_ok_weaker}
use Rattle.book_write.proofs.bodies.push_body.Goals as goal

pub returns : goal.returns
returns c = on_ok_weaker c.write_body.result (λ w. (w.0 ∷ [], (rw (w.1.0, c.in_ok-push.ensures.items) (simp (append_assoc, append-nil {A = ℕ})), record { body = w.0; body_is = w.1.1; words_are = refl }))) c.write_body.ensures.ok
