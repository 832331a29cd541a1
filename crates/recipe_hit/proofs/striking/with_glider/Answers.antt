use Rattle.std.proofs.Common.{◌≡◌, ◌∙◌, ◌*ℤ◌, pos, w64, to_z, of_z, ap, arith}
use Rattle.std.proofs.lemmas.Int.{ints}
use Rattle.life_plane.specs.Plane.{union}
use Rattle.life_plane.specs.Salvo.{salvo_glider}
use Rattle.life_cells.specs.Cells.{alive}
use Rattle.life_cells.specs.Laws.{alive-from_list}
use Rattle.recipe_hit.proofs.Comparisons.{if_ok}
use Rattle.recipe_hit.proofs.striking.with_glider.Goals as goal

pub returns : goal.returns
returns c =
    let lane : to_z w64 (of_z w64 c.args.lane) ≡ c.args.lane = omega (arith, ints) in
    let index : to_z w64 (of_z w64 (pos 4 *ℤ to_z w64 (of_z w64 c.args.quarter))) ≡ pos 4 *ℤ c.args.quarter = omega (arith, ints) in
    let glider : alive c.in_ok-glider.glider ≡ salvo_glider c.args.lane (pos 4 *ℤ c.args.quarter) =
    ap alive c.in_ok-glider.ensures ∙ alive-from_list c.glider_cells.result ∙ c.glider_cells.ensures.cells ∙ (λ i. salvo_glider (lane i) (index i)) in
    if_ok c.union.result (λ s. alive s ≡ union (alive c.args.cells.now) (alive c.in_ok-glider.glider)) _ (λ s is. is ∙ ap (union (alive c.args.cells.now)) glider) c.union.ensures
