-- A hit of the book as the composition theorem sees it.
use Rattle.std.specs.Prelude.{◌≡◌, ◌⊎◌, true, ℕ, zero, suc, ◌<◌, ◌≤◌, ℤ, pos, ◌*ℤ◌}
use Rattle.std.proofs.Common.{sym, ap, subst, ◌∙◌, arith, inl, inr}
use Rattle.std.proofs.lemmas.Bool.{cases_lt, or_left, or_right}
use Rattle.life_plane.specs.Plane.{Plane, run, union, IsStill}
use Rattle.life_plane.specs.Salvo.{salvo_glider}
use Rattle.life_plane.specs.Strips.{Each}
use Rattle.life_scene.specs.Hits as scene
use Rattle.life_cells.specs.Cells.{alive}
use Rattle.life_cells.specs.Boxes.{Holds}
use Rattle.life_cells.specs.declared.bounds.Bounds.{Bounds}
use Rattle.recipe_hit.specs.declared.frame.Hit.{Hit}
use Rattle.recipe_hit.specs.Strike.{hit_start, ever, IsHit}
use Rattle.recipe_hit.specs.SceneBoxes.{as_box}

pub held : (box : Bounds) (s : Plane) → Holds box s → Each (scene.InBox (as_box box)) s
held box s h x y l = let i = h.each x y l in record { left = i.right_of_left; top = i.below_top; right = i.left_of_right; bottom = i.above_bottom }

-- each generation up to the last is in all of them
pub in_ever : (n t : ℕ) (s : Plane) (x y : ℤ) → t ≤ n → run t s x y ≡ true → ever n s x y ≡ true
in_ever zero t s x y le l = let first : t ≡ 0 = omega arith in subst (λ k. run k s x y ≡ true) first l
in_ever (suc n) t s x y le l = by (cases_lt t (suc n)) (λ early. in_ever n t s x y early l)
  where
    by : (t < suc n) ⊎ (suc n ≤ t) → (t ≤ n → ever n s x y ≡ true) → ever (suc n) s x y ≡ true
    by (inl lt) rest = or_left (ever n s x y) (run (suc n) s x y) (rest (omega arith))
    by (inr ge) rest = let last : t ≡ suc n = omega arith in or_right (ever n s x y) (run (suc n) s x y) (subst (λ k. run k s x y ≡ true) last l)

-- a hit of the book is one for the composition theorem
pub scene_hit : (struck : Plane) (lane : ℤ) (hit : Hit) (h : IsHit struck lane hit) →
    scene.IsHit struck (as_box h.box) lane hit.frame.start hit.generations (alive hit.after) (as_box hit.frame.bounds)
scene_hit struck lane hit h = record {
  fits = held h.box struck h.box_is.holds;
  begins = h.start_is;
  ends = runs hit.generations ∙ sym h.leaves;
  still = subst IsStill (sym h.leaves) h.rests.still;
  first = λ t lt rests. h.rests.first t lt (subst IsStill (runs t) rests);
  inside = λ t le x y l. held hit.frame.bounds (ever hit.generations (hit_start struck h.box lane)) h.bounds.holds x y
      (in_ever hit.generations t (hit_start struck h.box lane) x y le (ap (λ (q : Plane). q x y) (sym (runs t)) ∙ l));
}
  where
    runs : (t : ℕ) → run t (scene.hit_start struck lane hit.frame.start) ≡ run t (hit_start struck h.box lane)
    runs t = ap (λ q. run t (union struck (salvo_glider lane (pos 4 *ℤ q)))) h.start_is
