-- The first word, and the body.
use Rattle.std.proofs.Common.{◌∷◌, [], refl, codes}
use Rattle.book_write.proofs.Laying.{line_laid}
use Rattle.book_write.proofs.kinds.push_hand.Goals as goal

pub returns : goal.returns
returns c =
    (codes "hand" ∷ c.in_ok-push_body.ensures.0, (line_laid _ _ _ _ (codes "hand") (c.in_ok-push_body.ensures.0 ∷ []) c.in_ok-begin_line.ensures (_, (c.in_ok-push_body.ensures.1.0, refl)) c.in_ok-end_line.ensures, record { drawn = c.in_ok-push_body.ensures.0; drawn_is = c.in_ok-push_body.ensures.1.1; words_are = refl }))
