-- No box, no cell.
use Rattle.std.proofs.Common.{◌∙◌, ap, [], ◌∷◌, refl, inl, inr, codes}
use Rattle.std.proofs.lemmas.Result.{on_ok_weaker}
use Rattle.life_cells.specs.Cells.{alive}
use Rattle.life_cells.specs.Laws.{alive-empty}
use Rattle.book_write.proofs.bodies.push_product.Goals as goal

pub returns-in-None : goal.returns-in-None
returns-in-None c = on_ok_weaker c.push_word.result (λ w. (codes "none" ∷ [], (w, inl (ap alive c.in-None.ensures.none ∙ alive-empty, refl)))) c.push_word.ensures

pub returns-in-Some : goal.returns-in-Some
returns-in-Some c = on_ok_weaker c.push_placed.result (λ w. (w.0, (w.1.0, inr w.1.1))) c.push_placed.ensures
