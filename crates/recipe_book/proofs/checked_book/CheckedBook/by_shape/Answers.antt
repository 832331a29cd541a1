use Rattle.std.proofs.Common.{sym, subst}
use Rattle.std.specs.Prelude.{Vec, ℕ}
use Rattle.std.specs.declared.alloc.Global.{Global}
use Rattle.std.specs.declared.option.Option.{Option}
use Rattle.life_cells.specs.Cells.{alive}
use Rattle.recipe_book.specs.ByShape.{AreNumbersOf, items_or_none}
use Rattle.recipe_book.proofs.checked_book.CheckedBook.by_shape.Goals as goal

pub returns-in-None : goal.returns-in-None
returns-in-None c =
    rw (← c.self.view_is)
    (subst (λ (o : Option (Vec ℕ Global)). AreNumbersOf c.self.inside.salvos.items (alive c.args.shape.now) (items_or_none o)) (sym c.in-None.ensures.value) (c.self.invariant.1.0 c.args.shape.now))
