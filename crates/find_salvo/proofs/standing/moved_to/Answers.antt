use Rattle.std.proofs.Common.{◌≡◌, ◌∙◌, ◌+ℤ◌, w64, to_z, of_z, arith}
use Rattle.std.proofs.lemmas.Int.{ints}
use Rattle.life_cells.specs.Cells.{cell}
use Rattle.find_salvo.proofs.standing.moved_to.Goals as goal

pub returns : goal.returns
returns c =
    let a = c.requires.at in
    let b = c.requires.place in
    let x : to_z w64 (of_z w64 (to_z w64 (of_z w64 c.args.at.x) +ℤ to_z w64 (of_z w64 c.args.place.x))) ≡ c.args.at.x +ℤ c.args.place.x = omega (arith, ints) in
    let y : to_z w64 (of_z w64 (to_z w64 (of_z w64 c.args.at.y) +ℤ to_z w64 (of_z w64 c.args.place.y))) ≡ c.args.at.y +ℤ c.args.place.y = omega (arith, ints) in
    c.new.ensures ∙ λ i. cell (x i) (y i)
