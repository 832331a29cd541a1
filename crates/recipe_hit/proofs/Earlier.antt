-- A hit is the same from further back.
use Rattle.std.proofs.Common.{◌≡◌, ℕ, ◌+◌, ◌-◌, ◌<◌, ◌≤◌, inl, inr, ℤ, pos, ◌+ℤ◌, ◌-ℤ◌, ◌*ℤ◌, ◌≤ℤ◌, sym, ap, subst, ◌∙◌, arith}
use Rattle.std.proofs.lemmas.Int.{ints}
use Rattle.std.proofs.lemmas.Bool.{cases_lt}
use Rattle.life_plane.specs.Plane.{Plane, run, union, IsStill}
use Rattle.life_plane.specs.Apart.{Apart}
use Rattle.life_plane.specs.EvolveLaws.{run-add, run_union, still_run}
use Rattle.life_plane.specs.Salvo.{salvo_glider}
use Rattle.life_plane.specs.SalvoLaws.{run_salvo}
use Rattle.life_scene.specs.HitLaws.{coming_apart, hit_lasts}
use Rattle.life_cells.specs.declared.bounds.Bounds.{Bounds}
use Rattle.life_cells.specs.Cells.{alive}
use Rattle.life_cells.specs.Boxes.{Holds}
use Rattle.recipe_hit.specs.declared.frame.Hit.{Hit}
use Rattle.recipe_hit.specs.Strike.{first_quarter, hit_start, ComesToRest, IsHit}
use Rattle.recipe_hit.specs.SceneHitLaws.{held, scene_hit}
use Rattle.recipe_hit.specs.SceneBoxes.{as_box}
use Rattle.recipe_hit.specs.FurtherBack.{start_before, IsHitFrom}

module _ (struck : Plane) (box : Bounds) (lane : ℤ) (still : IsStill struck) (holds : Holds box struck) where
  -- before its hit begins the glider doesn't touch what is struck
  coming : (j : ℤ) → j ≤ℤ (pos 4 *ℤ first_quarter box lane) → Apart struck (salvo_glider lane j)
  coming j early = coming_apart lane (as_box box) struck j (held box struck holds) (omega (arith, ints, early))

  -- and only moves on
  pub moves_on : (back n : ℕ) → n ≤ back → run n (start_before back struck box lane) ≡ union struck (salvo_glider lane ((pos 4 *ℤ first_quarter box lane -ℤ pos back) +ℤ pos n))
  moves_on back n le =
      let j = pos 4 *ℤ first_quarter box lane -ℤ pos back in
      run_union n struck (salvo_glider lane j) (record {
        each = λ k lt. subst (λ s. Apart s (run k (salvo_glider lane j))) (sym (still_run struck still k))
            (subst (Apart struck) (sym (run_salvo k lane j)) (coming (j +ℤ pos k) (omega (arith, ints))));
      })
      ∙ (λ i. union (still_run struck still n i) (run_salvo n lane j i))

  -- until the hit begins
  pub comes : (back : ℕ) → run back (start_before back struck box lane) ≡ hit_start struck box lane
  comes back =
      let there : (pos 4 *ℤ first_quarter box lane -ℤ pos back) +ℤ pos back ≡ pos 4 *ℤ first_quarter box lane = omega (arith, ints) in
      moves_on back back (omega arith) ∙ ap (λ j. union struck (salvo_glider lane j)) there

  pub comes_later : (back n : ℕ) → run (back + n) (start_before back struck box lane) ≡ run n (hit_start struck box lane)
  comes_later back n =
      let turned : back + n ≡ n + back = omega arith in
      ap (λ k. run k (start_before back struck box lane)) turned ∙ run-add n back (start_before back struck box lane) ∙ ap (run n) (comes back)

  -- what is still on its way is still where the hit begins
  still_there : (back t : ℕ) → t < back → IsStill (run t (start_before back struck box lane)) → IsStill (hit_start struck box lane)
  still_there back t lt rests =
      let back_is : (back - t) + t ≡ back = omega arith in
      let same : hit_start struck box lane ≡ run t (start_before back struck box lane) =
      sym (comes back) ∙ ap (λ k. run k (start_before back struck box lane)) (sym back_is) ∙ run-add (back - t) t (start_before back struck box lane)
      ∙ still_run (run t (start_before back struck box lane)) rests (back - t) in
      subst IsStill (sym same) rests

  -- the first still generation comes so many later
  pub rests_later : (back n : ℕ) → ComesToRest (hit_start struck box lane) n → 0 < n → ComesToRest (start_before back struck box lane) (back + n)
  rests_later back n rest lasts = record {
    still = subst IsStill (sym (comes_later back n)) rest.still;
    first = λ t lt still_then. elim (cases_lt t back) [
      | inl before ↦ rest.first 0 lasts (still_there back t before still_then)
      | inr after ↦
          let t_is : t ≡ back + (t - back) = omega arith in
          rest.first (t - back) (omega arith) (subst IsStill (ap (λ k. run k (start_before back struck box lane)) t_is ∙ comes_later back (t - back)) still_then)
    ];
  }

-- a hit lasts
pub lasts : (struck : Plane) (lane : ℤ) (hit : Hit) → IsStill struck → IsHit struck lane hit → 0 < hit.generations
lasts struck lane hit still h =
    let four = hit_lasts struck (as_box h.box) lane hit.frame.start hit.generations (alive hit.after) (as_box hit.frame.bounds) still (scene_hit struck lane hit h) in
    omega arith

-- the hit is the same from further back
pub same_from_further_back : (struck : Plane) (lane : ℤ) (hit : Hit) → IsStill struck → IsHit struck lane hit → (back : ℕ) → IsHitFrom back struck lane hit
same_from_further_back struck lane hit still h back = record {
  box = h.box;
  box_is = h.box_is;
  later = comes_later struck h.box lane still h.box_is.holds back;
  rests = rests_later struck h.box lane still h.box_is.holds back hit.generations h.rests (lasts struck lane hit still h);
  leaves = h.leaves ∙ sym (comes_later struck h.box lane still h.box_is.holds back hit.generations);
}
