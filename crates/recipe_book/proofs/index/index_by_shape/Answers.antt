use Rattle.std.proofs.Common.{◌≡◌, ◌+◌, ℕ, ap, subst}
use Rattle.life_cells.specs.Cells.{alive, empty}
use Rattle.book_parts.specs.declared.salvo.RawSalvo.{RawSalvo}
use Rattle.recipe_book.specs.ByShape.{AddsNumber}
use Rattle.recipe_book.proofs.Indexing.{passes_next, gains_next}
use Rattle.recipe_book.proofs.index.index_by_shape.Goals.{then-not-is_empty+in_ok-add_number, else-not-is_empty}
use Rattle.recipe_book.proofs.index.index_by_shape.Goals as goal

pub loop-salvo-preserved : goal.loop-salvo-preserved
loop-salvo-preserved c = (
  ap (λ (n : ℕ). n + 1) c.loop-salvo.invariant.0,
  λ shape. elim c.if-not-is_empty.branch [
    | then-not-is_empty+in_ok-add_number w ↦
        rw w.index-is
        (gains_next c.args.salvos.now c.loop-salvo.salvo-index c.salvo-item.result (c.loop-salvo.number + 1) c.loop-salvo.index.entries w.add_number.new.index.entries
        c.loop-salvo-test.true c.salvo-item.is (ap (λ (n : ℕ). n + 1) c.loop-salvo.invariant.0)
        (subst (λ (raw : RawSalvo). AddsNumber (alive raw.product) (c.loop-salvo.number + 1) c.loop-salvo.index.entries w.add_number.new.index.entries) c.raw.ensures.raw w.in_ok-add_number.ensures)
        c.loop-salvo.invariant.1 shape)
    | else-not-is_empty w ↦
        rw w.index-is
        (passes_next c.args.salvos.now c.loop-salvo.salvo-index c.salvo-item.result c.loop-salvo.index.entries c.loop-salvo-test.true c.salvo-item.is
        (subst (λ (raw : RawSalvo). raw.product ≡ empty) c.raw.ensures.raw (c.is_empty.ensures.0 w.if-not-is_empty.false))
        c.loop-salvo.invariant.1 shape)
  ],
)
