use Rattle.std.proofs.Common.{◌≡◌, ◌∙◌, ◌^◌, ℤ, pos, ◌-ℤ◌, w64, to_z, of_z, refl, sym, subst, arith}
use Rattle.std.proofs.lemmas.Int.{ints}
use Rattle.life_cells.specs.Cells.{alive}
use Rattle.life_plane.specs.Salvo.{salvo_glider}
use Rattle.life_gliders.specs.Beyond.{beyond}
use Rattle.recipe_hit.specs.FrontLaws.{led_never_still}
use Rattle.recipe_hit.specs.LiveCellLaws.{live_in_range}
use Rattle.recipe_hit.proofs.Found.{what_is}
use Rattle.recipe_hit.proofs.leading.leads.Goals as goal

pub diagonal_of-wall-requires : goal.diagonal_of-wall-requires
diagonal_of-wall-requires c = live_in_range (2 ^ 58) (alive c.args.cells.now) _ c.requires c.in-Some.ensures

pub returns : goal.returns
returns c led =
    let s = alive c.args.cells.now in
    let front = c.in-Some.front in
    let near = live_in_range (2 ^ 58) s front c.requires c.in-Some.ensures in
    let low = near.x_low in let high = near.x_high in let above = near.y_low in let below = near.y_high in
    let on = c.diagonal_of-wall.ensures in
    let wall : to_z w64 (of_z w64 (to_z w64 (of_z w64 c.diagonal_of-wall.result) -ℤ pos 13)) ≡ (front.x -ℤ front.y) -ℤ pos 13 = omega (arith, ints) in
    let glider = what_is c.find_salvo_glider.result _ (sym c.is_some.ensures ∙ led) c.find_salvo_glider.ensures.some in
    led_never_still s (front.x -ℤ front.y) glider.0.0 glider.0.1 (record { x = front.x; y = front.y; lives = c.in-Some.ensures; on = refl })
    (subst (λ (w : ℤ). beyond w s ≡ salvo_glider glider.0.0 glider.0.1) wall glider.1)
