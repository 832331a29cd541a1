use Rattle.std.proofs.Common.{◌≡◌, ◌∙◌, pos, neg_ℤ, ◌-ℤ◌, w64, to_z, of_z, arith}
use Rattle.std.specs.Int.{int_max}
use Rattle.std.proofs.lemmas.Int.{ints, clamps}
use Rattle.recipe_hit.proofs.striking.first_quarter_of.Goals as goal

pub returns-clause-start : goal.returns-clause-start
returns-clause-start c =
    let beside : to_z w64 (of_z w64 (to_z w64 (of_z w64 (to_z w64 (of_z w64 c.args.struck.left) -ℤ pos 6)) -ℤ to_z w64 (of_z w64 c.args.lane))) ≡ (c.args.struck.left -ℤ pos 6) -ℤ c.args.lane = omega (arith, ints) in
    let below : to_z w64 (of_z w64 (to_z w64 (of_z w64 (pos 0 -ℤ to_z w64 (of_z w64 c.args.struck.bottom))) -ℤ pos 6)) ≡ neg_ℤ c.args.struck.bottom -ℤ pos 6 = omega (arith, ints) in
    let whole : to_z w64 (of_z w64 c.max.result) ≡ c.max.result = omega (arith, ints) in
    whole ∙ c.max.ensures.value ∙ (λ i. int_max (beside i) (below i))

pub returns-clause-high : goal.returns-clause-high
returns-clause-high c = let v = c.max.ensures.value in omega (arith, ints, clamps)
