-- A hit from its parts, and that there is none.
use Rattle.std.proofs.Common.{◌≡◌, ◌≤◌, ℤ, pos, ◌*ℤ◌, refl, sym, ap, subst, ◌∙◌}
use Rattle.life_plane.specs.Plane.{Plane, run, IsStill, union}
use Rattle.life_plane.specs.Salvo.{salvo_glider}
use Rattle.life_cells.specs.declared.bounds.Bounds.{Bounds}
use Rattle.life_cells.specs.Cells.{alive}
use Rattle.life_cells.specs.Boxes.{IsLeastBox}
use Rattle.life_cells.specs.BoxLaws.{one_least_box}
use Rattle.recipe_hit.specs.declared.frame.Hit.{Hit}
use Rattle.recipe_hit.specs.declared.rest.Rest.{Rest}
use Rattle.recipe_hit.specs.Strike.{first_quarter, hit_start, ever, ComesToRest, IsNear, IsHit}
use Rattle.recipe_hit.specs.OneHitLaws.{one_rest}
use Rattle.recipe_hit.specs.Rest.{IsRestOf, NeverRests}
use Rattle.recipe_hit.specs.Refusals.{HasNoHit, HitIsRefused}
use Rattle.recipe_hit.specs.declared.refusal.HitRefusal.TheVariants.{NotSettled}
use Rattle.recipe_hit.specs.declared.limits.TheConstants.{LONGEST_HIT}

-- what was evolved is the start of the hit
pub start_of : (struck start : Plane) (box : Bounds) (kept lane quarter : ℤ) → start ≡ union struck (salvo_glider kept (pos 4 *ℤ quarter)) → kept ≡ lane → quarter ≡ first_quarter box kept →
    start ≡ hit_start struck box lane
start_of struck start box kept lane quarter is on begins = is ∙ ap (λ q. union struck (salvo_glider kept (pos 4 *ℤ q))) begins ∙ ap (hit_start struck box) on

-- what never rests has no hit
pub no_hit_without_rest : (struck : Plane) (box : Bounds) (lane : ℤ) (start : Plane) → IsLeastBox box struck → start ≡ hit_start struck box lane → NeverRests start → HasNoHit struck lane
no_hit_without_rest struck box lane start h is never hit k =
    let same : k.box ≡ box = one_least_box struck k.box box k.box_is h in
    never hit.generations k.soon (subst (λ p. IsStill (run hit.generations p)) (ap (λ b. hit_start struck b lane) same ∙ sym is) k.rests.still)

-- what comes to rest too far off has no hit
pub no_hit_far_off : (struck : Plane) (box : Bounds) (lane : ℤ) (start : Plane) (rest : Rest) → IsLeastBox box struck → start ≡ hit_start struck box lane → IsRestOf start rest →
    (IsNear rest.bounds box → ⊥) → HasNoHit struck lane
no_hit_far_off struck box lane start rest h is r far hit k =
    let same : k.box ≡ box = one_least_box struck k.box box k.box_is h in
    let begins : hit_start struck k.box lane ≡ start = ap (λ b. hit_start struck b lane) same ∙ sym is in
    let when : hit.generations ≡ rest.generations = one_rest start hit.generations rest.generations (subst (λ p. ComesToRest p hit.generations) begins k.rests) r.rests in
    let bounds : IsLeastBox hit.frame.bounds (ever rest.generations start) =
    subst (λ n. IsLeastBox hit.frame.bounds (ever n start)) when (subst (λ p. IsLeastBox hit.frame.bounds (ever hit.generations p)) begins k.bounds) in
    let boxes : hit.frame.bounds ≡ rest.bounds = one_least_box _ hit.frame.bounds rest.bounds bounds r.bounds in
    far (subst (λ b. IsNear b box) boxes (subst (IsNear hit.frame.bounds) same k.near))

-- a hit from how it comes to rest
pub made_hit : (struck start : Plane) (box : Bounds) (lane : ℤ) (rest : Rest) (hit : Hit) → IsLeastBox box struck → start ≡ hit_start struck box lane → IsRestOf start rest → IsNear rest.bounds box →
    hit.frame.lane ≡ lane → hit.frame.start ≡ first_quarter box lane → hit.after ≡ rest.after → hit.generations ≡ rest.generations → hit.frame.bounds ≡ rest.bounds → IsHit struck lane hit
made_hit struck start box lane rest hit h is r near on begins after when bounds = record {
  box = box;
  box_is = h;
  lane_is = on;
  start_is = begins;
  rests = subst (λ n. ComesToRest (hit_start struck box lane) n) (sym when) (subst (λ p. ComesToRest p rest.generations) is r.rests);
  soon = subst (λ n. n ≤ LONGEST_HIT) (sym when) r.soon;
  leaves = ap alive after ∙ r.leaves ∙ ap (run rest.generations) is ∙ ap (λ n. run n (hit_start struck box lane)) (sym when);
  bounds = subst (λ b. IsLeastBox b (ever hit.generations (hit_start struck box lane))) (sym bounds)
      (subst (λ n. IsLeastBox rest.bounds (ever n (hit_start struck box lane))) (sym when) (subst (λ p. IsLeastBox rest.bounds (ever rest.generations p)) is r.bounds));
  near = subst (λ b. IsNear b box) (sym bounds) near;
}

-- where nothing rests, and where it rests too far off, the hit is refused
pub refused : (struck : Plane) (box : Bounds) (lane : ℤ) → IsLeastBox box struck → HasNoHit struck lane → HitIsRefused struck lane (NotSettled LONGEST_HIT)
refused struck box lane h none = (refl, (h.lives, none))
