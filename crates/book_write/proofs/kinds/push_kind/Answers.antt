-- The words, one after the other; a kind lives, so it has a place.
use Rattle.std.proofs.Common.{◌∷◌, [], refl, codes}
use Rattle.book_write.proofs.Laying.{line_laid}
use Rattle.life_cells.specs.Cells.{alive}
use Rattle.book_write.proofs.Moving.{placed_living}
use Rattle.book_write.proofs.kinds.push_kind.Goals as goal

pub returns : goal.returns
returns c =
    (codes "elbow" ∷ (c.args.kind.now.name ∷ c.in_ok-push_product.ensures.0), (line_laid _ _ _ _ (codes "elbow") ((c.args.kind.now.name ∷ []) ∷ (c.in_ok-push_product.ensures.0 ∷ [])) c.in_ok-begin_line.ensures (_, (rw c.text.ensures at c.in_ok-push_word.ensures, (_, (c.in_ok-push_product.ensures.1.0, refl)))) c.in_ok-end_line.ensures, record { placed = c.in_ok-push_product.ensures.0; placed_is = placed_living (alive c.args.kind.now.cells) c.in_ok-push_product.ensures.0 c.requires.lives c.in_ok-push_product.ensures.1.1; words_are = refl }))
