use Rattle.std.proofs.Common.{◌≡◌, ◌∙◌, ◌-ℤ◌, w64, to_z, of_z, subst, sym, arith}
use Rattle.std.proofs.lemmas.Int.{ints}
use Rattle.life_cells.specs.Cells.{cell}
use Rattle.life_cells.specs.Boxes.{IsCellInRange}
use Rattle.find_salvo.proofs.standing.place_from.Goals as goal

pub returns-clause-place : goal.returns-clause-place
returns-clause-place c =
    let a = c.requires.first in
    let b = c.requires.to in
    let x : to_z w64 (of_z w64 (to_z w64 (of_z w64 c.args.to.x) -ℤ to_z w64 (of_z w64 c.args.first.x))) ≡ c.args.to.x -ℤ c.args.first.x = omega (arith, ints) in
    let y : to_z w64 (of_z w64 (to_z w64 (of_z w64 c.args.to.y) -ℤ to_z w64 (of_z w64 c.args.first.y))) ≡ c.args.to.y -ℤ c.args.first.y = omega (arith, ints) in
    c.new.ensures ∙ λ i. cell (x i) (y i)

pub returns-clause-near : goal.returns-clause-near
returns-clause-near c =
    let a = c.requires.first in
    let b = c.requires.to in
    subst (IsCellInRange 2199023255552) (sym (returns-clause-place c))
    (record { x_low = omega (arith, ints); x_high = omega (arith, ints); y_low = omega (arith, ints); y_high = omega (arith, ints) })
