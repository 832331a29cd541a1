use Rattle.std.proofs.Common.{◌≡◌, ◌∙◌, neg_ℤ, pos, ◌-ℤ◌, w64, to_z, of_z, arith}
use Rattle.std.proofs.lemmas.Int.{ints}
use Rattle.life_cells.specs.Cells.{cell}
use Rattle.recipe_hit.proofs.turned.mirrored_cell.Goals as goal

pub returns : goal.returns
returns c =
    let near = c.requires in
    let x : to_z w64 (of_z w64 (pos 0 -ℤ to_z w64 (of_z w64 c.args.cell.x))) ≡ neg_ℤ c.args.cell.x = omega (arith, ints) in
    let y : to_z w64 (of_z w64 c.args.cell.y) ≡ c.args.cell.y = omega (arith, ints) in
    c.new.ensures ∙ λ i. cell (x i) (y i)
