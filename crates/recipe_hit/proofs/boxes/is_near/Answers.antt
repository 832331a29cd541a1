use Rattle.std.proofs.Common.{◌≡◌, arith, rules, w64, to_z, of_z, ◌+ℤ◌, ◌-ℤ◌, ◌≤ℤ◌}
use Rattle.std.specs.Prelude.{FitsSigned}
use Rattle.std.proofs.lemmas.Int.{ints, to_z-of_z}
use Rattle.recipe_hit.proofs.Comparisons.{test_decides, beyond_kept}
use Rattle.recipe_hit.proofs.boxes.is_near.Goals as goal
use Rattle.recipe_hit.specs.declared.limits.TheConstants.{BEYOND}

pub returns : goal.returns
returns c =
    let fits : FitsSigned w64 c.args.bounds.bottom = search rules in
    let bottom : to_z w64 (of_z w64 c.args.bounds.bottom) ≡ c.args.bounds.bottom = to_z-of_z w64 c.args.bounds.bottom fits in
    let limit = beyond_kept c.args.other.bottom c.requires.bottom_low c.requires.bottom_high in
    let left : (c.args.other.left -ℤ BEYOND) ≤ℤ c.args.bounds.left = omega (arith, ints) in
    let top : (c.args.other.top -ℤ BEYOND) ≤ℤ c.args.bounds.top = omega (arith, ints) in
    let right : c.args.bounds.right ≤ℤ (c.args.other.right +ℤ BEYOND) = omega (arith, ints) in
    test_decides _ _ _ _ _ bottom limit (λ low. record { left = left; top = top; right = right; bottom = low }) (λ near. near.bottom)
