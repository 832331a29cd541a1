use Rattle.std.proofs.Common.{FitsSigned, w64, rules}
use Rattle.std.proofs.lemmas.Int.{to_z-of_z}
use Rattle.recipe_find.proofs.limits.is_box.Goals as goal

pub returns-then-are_coordinates : goal.returns-then-are_coordinates
returns-then-are_coordinates c =
    let left : FitsSigned w64 c.args.bounds.left = search rules in
    let top : FitsSigned w64 c.args.bounds.top = search rules in
    let right : FitsSigned w64 c.args.bounds.right = search rules in
    let bottom : FitsSigned w64 c.args.bounds.bottom = search rules in
    let first = simp to_z-of_z at (c.are_coordinates.ensures.0 c.if-are_coordinates.true) in
    let rest = simp to_z-of_z at c.are_coordinates-then-are_coordinates.ensures in
    (λ h. (first, rest.0 h), λ sides. rest.1 sides.1)
