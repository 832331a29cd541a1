use Rattle.std.proofs.Common.{◌≡◌, ◌∙◌, ap, subst, refl, arith, w64, to_z, of_z, IfNone, IfSome}
use Rattle.std.proofs.lemmas.Int.{ints}
use Rattle.life_cells.specs.Cells.{alive}
use Rattle.life_cells.specs.Laws.{alive-empty}
use Rattle.recipe_hit.specs.Rest.{NeverRests, IsRestOf}
use Rattle.life_plane.specs.LookUpLaws.{not_if_false}
use Rattle.recipe_hit.specs.Strike.{first_quarter}
use Rattle.recipe_hit.proofs.SetBox.{box_of_set}
use Rattle.recipe_hit.proofs.HitStarts.{start_in_range, least_with_glider}
use Rattle.recipe_hit.proofs.Hitting.{start_of, no_hit_without_rest, no_hit_far_off, made_hit, refused}
use Rattle.recipe_hit.proofs.striking.hit.Goals as goal
use Rattle.life_cells.specs.BoxRangeLaws.{box_in_range}

pub returns-in_default-clause-refusal : goal.returns-in_default-clause-refusal
returns-in_default-clause-refusal g c = ap alive c.in_default.ensures.none ∙ alive-empty

pub first_quarter_of-start-requires-clause-struck : goal.first_quarter_of-start-requires-clause-struck
first_quarter_of-start-requires-clause-struck g c = box_in_range _ _ _ c.in-Some.ensures.some c.requires.range

pub come_to_rest-requires-clause-range : goal.come_to_rest-requires-clause-range
come_to_rest-requires-clause-range g c =
    let lane : to_z w64 (of_z w64 c.args.lane) ≡ c.args.lane = omega (arith, ints) in
    let quarter : to_z w64 (of_z w64 c.first_quarter_of-start.result) ≡ c.first_quarter_of-start.result = omega (arith, ints) in
    start_in_range c.args.lane c.first_quarter_of-start.result (to_z w64 (of_z w64 c.args.lane)) (to_z w64 (of_z w64 c.first_quarter_of-start.result)) (alive c.args.cells.now)
    (alive c.in_ok-before.before) c.requires.low c.requires.high c.first_quarter_of-start.ensures.low c.first_quarter_of-start.ensures.high c.requires.range lane quarter c.in_ok-before.ensures

pub come_to_rest-requires-clause-bounds : goal.come_to_rest-requires-clause-bounds
come_to_rest-requires-clause-bounds g c =
    least_with_glider _ (alive c.args.cells.now) _ _ c.in_ok-before.ensures
    (c.grown-bounds.ensures (alive c.args.cells.now) (alive c.in_ok-before.before) c.in-Some.ensures.some (box_of_set _ c.in_ok-before.before c.bounds-2.ensures.some c.bounds-2.ensures.none))

pub returns-in_default-2-clause-refusal : goal.returns-in_default-2-clause-refusal
returns-in_default-2-clause-refusal g c =
    let lane : to_z w64 (of_z w64 c.args.lane) ≡ c.args.lane = omega (arith, ints) in
    let quarter : to_z w64 (of_z w64 c.first_quarter_of-start.result) ≡ c.first_quarter_of-start.result = omega (arith, ints) in
    let start = start_of (alive c.args.cells.now) (alive c.in_ok-before.before) c.in-Some.struck (to_z w64 (of_z w64 c.args.lane)) c.args.lane (to_z w64 (of_z w64 c.first_quarter_of-start.result))
    c.in_ok-before.ensures lane (quarter ∙ c.first_quarter_of-start.ensures.start) in
    let never = subst (λ found. IfNone found (NeverRests (alive c.in_ok-before.before))) c.in_default-2.is c.in_ok-rest.ensures.none in
    refused (alive c.args.cells.now) c.in-Some.struck c.args.lane c.in-Some.ensures.some
    (no_hit_without_rest (alive c.args.cells.now) c.in-Some.struck c.args.lane (alive c.in_ok-before.before) c.in-Some.ensures.some start never)

pub is_near-requires : goal.is_near-requires
is_near-requires g c = box_in_range _ _ _ c.in-Some.ensures.some c.requires.range

pub returns-then-not-is_near-clause-refusal : goal.returns-then-not-is_near-clause-refusal
returns-then-not-is_near-clause-refusal g c =
    let lane : to_z w64 (of_z w64 c.args.lane) ≡ c.args.lane = omega (arith, ints) in
    let quarter : to_z w64 (of_z w64 c.first_quarter_of-start.result) ≡ c.first_quarter_of-start.result = omega (arith, ints) in
    let start = start_of (alive c.args.cells.now) (alive c.in_ok-before.before) c.in-Some.struck (to_z w64 (of_z w64 c.args.lane)) c.args.lane (to_z w64 (of_z w64 c.first_quarter_of-start.result))
    c.in_ok-before.ensures lane (quarter ∙ c.first_quarter_of-start.ensures.start) in
    let rest = subst (λ found. IfSome found (IsRestOf (alive c.in_ok-before.before))) c.in-Some-2.is c.in_ok-rest.ensures.some in
    refused (alive c.args.cells.now) c.in-Some.struck c.args.lane c.in-Some.ensures.some
    (no_hit_far_off (alive c.args.cells.now) c.in-Some.struck c.args.lane (alive c.in_ok-before.before) c.in-Some-2.rest c.in-Some.ensures.some start rest
    (not_if_false _ _ c.if-not-is_near.true c.is_near.ensures))

pub returns-clause-hit : goal.returns-clause-hit
returns-clause-hit g c =
    let lane : to_z w64 (of_z w64 c.args.lane) ≡ c.args.lane = omega (arith, ints) in
    let quarter : to_z w64 (of_z w64 c.first_quarter_of-start.result) ≡ c.first_quarter_of-start.result = omega (arith, ints) in
    let start = start_of (alive c.args.cells.now) (alive c.in_ok-before.before) c.in-Some.struck (to_z w64 (of_z w64 c.args.lane)) c.args.lane (to_z w64 (of_z w64 c.first_quarter_of-start.result))
    c.in_ok-before.ensures lane (quarter ∙ c.first_quarter_of-start.ensures.start) in
    let rest = subst (λ found. IfSome found (IsRestOf (alive c.in_ok-before.before))) c.in-Some-2.is c.in_ok-rest.ensures.some in
    made_hit (alive c.args.cells.now) (alive c.in_ok-before.before) c.in-Some.struck c.args.lane c.in-Some-2.rest _ c.in-Some.ensures.some start rest
    (c.is_near.ensures.0 c.if-not-is_near.false) lane (quarter ∙ c.first_quarter_of-start.ensures.start ∙ ap (first_quarter c.in-Some.struck) lane) refl refl refl
