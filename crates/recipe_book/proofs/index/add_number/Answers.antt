use Rattle.std.proofs.Common.{◌≡◌, ◌++◌, List, [], ◌∷◌, ap, ◌∙◌, ℕ}
use Rattle.life_cells.specs.Cells.{alive}
use Rattle.recipe_book.specs.ByShape.{items_or_none}
use Rattle.recipe_book.proofs.Indexing.{adds, items_had, items_new}
use Rattle.recipe_book.proofs.index.add_number.Goals.{in-Some, in-None}
use Rattle.recipe_book.proofs.index.add_number.Goals as goal

pub returns : goal.returns
returns c =
    let had : c.match-swap_remove.numbers.items ≡ items_or_none c.swap_remove.result =
    elim c.match-swap_remove.branch [ in-Some w ↦ items_had _ _ _ w.in-Some.is w.numbers-is | in-None w ↦ items_new _ _ _ w.in-None.is w.new-numbers.ensures.items w.numbers-is ] in
    adds (alive c.args.product.now) c.args.number c.in_ok-shape.shape c.in_ok-shape.field-0-1 c.args.index.now.entries c.swap_remove.new.self.entries c.insert.new.self.entries
    c.swap_remove.result c.push.new.self c.in_ok-shape.ensures c.swap_remove.ensures.value c.swap_remove.ensures.updates.2 c.in_ok-insert.ensures.updates.1 c.in_ok-insert.ensures.updates.2
    (c.in_ok-push.ensures.items ∙ ap (λ (l : List ℕ). l ++ (c.args.number ∷ [])) had)
