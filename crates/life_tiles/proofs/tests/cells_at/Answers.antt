use Rattle.std.proofs.Common.{Option, IfSome, subst, arith}
use Rattle.std.proofs.lemmas.Int.{ints}
use Rattle.life_cells.specs.declared.bounds.Bounds.{Bounds}
use Rattle.life_cells.specs.Boxes.{IsLeastBox}
use Rattle.life_cells.specs.Cells.{alive}
use Rattle.life_tiles.proofs.tests.cells_at.Goals as goal

pub returns : goal.returns
returns g c =
    let least : IsLeastBox c.expect-bounds.result (alive c.in_ok-set.set) = subst (λ (o : Option Bounds). IfSome o (λ b. IsLeastBox b (alive c.in_ok-set.set))) c.expect-bounds.ensures c.bounds.ensures.some in
    record {
      x_low = λ x y h. let there = least.holds.each x y h in omega (arith, ints);
      x_high = λ x y h. let there = least.holds.each x y h in omega (arith, ints);
      y_low = λ x y h. let there = least.holds.each x y h in omega (arith, ints);
      y_high = λ x y h. let there = least.holds.each x y h in omega (arith, ints);
    }
