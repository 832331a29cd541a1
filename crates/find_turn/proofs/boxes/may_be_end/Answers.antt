use Rattle.std.proofs.Common.{◌≡◌, pos, ◌+ℤ◌, ◌-ℤ◌, ◌≤ℤ◌, ◌<ℤ◌, inl, inr, w64, to_z, of_z, arith}
use Rattle.std.proofs.lemmas.Int.{ints}
use Rattle.find_turn.proofs.Numbers.{test_decides}
use Rattle.find_turn.proofs.boxes.may_be_end.Goals as goal

pub returns-then-bounds-settings : goal.returns-then-bounds-settings
returns-then-bounds-settings c =
    let wall = c.requires.settings.wall in
    let low = wall.low in let high = wall.high in
    let here : to_z w64 (of_z w64 (to_z w64 (of_z w64 c.args.settings.now.wall) +ℤ pos 5)) ≡ c.args.settings.now.wall +ℤ pos 5 = omega (arith, ints) in
    let there : to_z w64 (of_z w64 (to_z w64 (of_z w64 c.args.bounds.right) -ℤ to_z w64 (of_z w64 c.args.bounds.top))) ≡ c.args.bounds.right -ℤ c.args.bounds.top = omega (arith, ints) in
    let far : (c.args.settings.now.wall +ℤ pos 5) ≤ℤ (c.args.bounds.right -ℤ c.args.bounds.top) = omega (arith, ints) in
    (λ _. inl far, λ _. (test_decides _ _ _ _ here there).1 far)

pub returns-else-bounds-settings : goal.returns-else-bounds-settings
returns-else-bounds-settings c =
    let wall = c.requires.settings.wall in
    let low = wall.low in let high = wall.high in
    let near : (c.args.bounds.right -ℤ c.args.bounds.top) <ℤ (c.args.settings.now.wall +ℤ pos 5) = omega (arith, ints) in
    (λ any. inr (c.is_any_moved.ensures.0 any), λ h. elim h [ inl far ↦ absurd (omega (arith, ints, far, near)) | inr any ↦ c.is_any_moved.ensures.1 any ])
