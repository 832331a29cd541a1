-- The words, one after the other.
use Rattle.std.proofs.Common.{◌++◌, ◌∷◌, [], map, refl, codes}
use Rattle.std.specs.Fmt.{signed_decimal}
use Rattle.book_write.proofs.Laying.{line_laid}
use Rattle.book_write.specs.Parts.{hand_words}
use Rattle.book_write.proofs.salvos.push_salvo.Goals as goal

pub returns : goal.returns
returns c =
    (codes "salvo" ∷ (c.args.salvo.now.name ∷ (codes ":" ∷ (map signed_decimal c.args.salvo.now.lanes ++ (codes ":" ∷ (c.in_ok-push_product.ensures.0 ++ (codes ":" ∷ hand_words c.args.salvo.now.hand)))))), (line_laid _ _ _ _ (codes "salvo") ((c.args.salvo.now.name ∷ []) ∷ ((codes ":" ∷ []) ∷ (map signed_decimal c.args.salvo.now.lanes ∷ ((codes ":" ∷ []) ∷ (c.in_ok-push_product.ensures.0 ∷ ((codes ":" ∷ []) ∷ (hand_words c.args.salvo.now.hand ∷ []))))))) c.in_ok-begin_line.ensures (_, (rw c.text.ensures at c.in_ok-push_word.ensures, (_, (c.in_ok-push_word-2.ensures, (_, (rw c.items.ensures at c.in_ok-push_numbers.ensures, (_, (c.in_ok-push_word-3.ensures, (_, (c.in_ok-push_product.ensures.1.0, (_, (c.in_ok-push_word-4.ensures, (_, (c.in_ok-push_left.ensures, refl)))))))))))))) c.in_ok-end_line.ensures, record { product = c.in_ok-push_product.ensures.0; product_is = c.in_ok-push_product.ensures.1.1; words_are = refl }))
