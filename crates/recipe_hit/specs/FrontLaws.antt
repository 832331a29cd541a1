-- Nothing overtakes a glider: in two generations a front along a diagonal comes forward by one cell at most, and a glider does.
use Rattle.std.specs.Prelude.{◌≡◌, Bool, true, false, not, ◌&&◌, ◌||◌, ℕ, zero, suc, ◌+◌, ◌-◌, ◌*◌, ◌/◌, ◌≤◌, ℤ, pos, neg_ℤ, ◌+ℤ◌, ◌-ℤ◌, ◌*ℤ◌, ◌≤ℤ◌, ◌<ℤ◌, ◌<◌, int_le}
use Rattle.std.proofs.Common.{refl, sym, ap, subst, ◌∙◌, arith, inl, inr}
use Rattle.std.proofs.lemmas.Int.{ints}
use Rattle.std.proofs.Math.Nat.{mul-le-mul_left}
use Rattle.std.proofs.lemmas.Bool.{false_from_ne_true, and_parts}
use Rattle.life_plane.specs.NumberLaws.{test_from_le, cases_below}
use Rattle.life_plane.specs.Plane.{Plane, step, run, union, IsStill, one_if, lives_on, same_plane}
use Rattle.life_plane.specs.EvolveLaws.{run-add, run_union, still_run}
use Rattle.life_plane.specs.Apart.{Apart}
use Rattle.life_plane.specs.Strips.{Each, UAtMost}
use Rattle.life_plane.specs.StripLaws.{apart_by_u}
use Rattle.life_plane.specs.StillLaws.{second_still}
use Rattle.life_plane.specs.Salvo.{salvo_glider}
use Rattle.life_plane.specs.SalvoLaws.{step_salvo, run_salvo, salvo_range, salvo_left}
use Rattle.life_gliders.specs.Beyond.{beyond}
use Rattle.recipe_hit.specs.Endless.{NeverStill, LivesOn, mirror, transpose}

-- ---- one generation

-- the three neighbours behind a cell that is born at the front
record IsBorn (s : Plane) (x y : ℤ) : Type 0 where
  west : s (x -ℤ pos 1) y ≡ true
  south_west : s (x -ℤ pos 1) (y +ℤ pos 1) ≡ true
  south : s x (y +ℤ pos 1) ≡ true

all_three : (w c t : Bool) → lives_on false (one_if false + one_if false + one_if false + one_if w + one_if false + one_if c + one_if t + one_if false) ≡ true → (w ≡ true) × ((c ≡ true) × (t ≡ true))
all_three true true true h = (refl, (refl, refl))
all_three true true false h = cc
all_three true false true h = cc
all_three true false false h = cc
all_three false true true h = cc
all_three false true false h = cc
all_three false false true h = cc
all_three false false false h = cc

-- past the front all is dead
past : (c x y : ℤ) (s : Plane) → Each (UAtMost c) s → c <ℤ (x -ℤ y) → s x y ≡ false
past c x y s front far = false_from_ne_true _ (λ l. let u = (front x y l).u in absurd (omega (arith, ints)))

-- what is born one diagonal past the front has all three neighbours behind it
born : (c x y : ℤ) (s : Plane) → Each (UAtMost c) s → (x -ℤ y) ≡ c +ℤ pos 1 → step s x y ≡ true → IsBorn s x y
unfolding step
born c x y s front on lives =
    let nw = past c (x -ℤ pos 1) (y -ℤ pos 1) s front (omega (arith, ints)) in
    let n = past c x (y -ℤ pos 1) s front (omega (arith, ints)) in
    let ne = past c (x +ℤ pos 1) (y -ℤ pos 1) s front (omega (arith, ints)) in
    let here = past c x y s front (omega (arith, ints)) in
    let e = past c (x +ℤ pos 1) y s front (omega (arith, ints)) in
    let se = past c (x +ℤ pos 1) (y +ℤ pos 1) s front (omega (arith, ints)) in
    let three = all_three (s (x -ℤ pos 1) y) (s (x -ℤ pos 1) (y +ℤ pos 1)) (s x (y +ℤ pos 1)) (rw (nw, n, ne, here, e, se) at lives) in
    record { west = three.0; south_west = three.1.0; south = three.1.1 }

lonely : (b : Bool) → lives_on false (one_if false + one_if false + one_if false + one_if false + one_if false + one_if b + one_if false + one_if false) ≡ false
lonely true = refl
lonely false = refl

true≢false : true ≡ false → ⊥
true≢false h = cc

-- further out nothing is born: there is one live neighbour at most
barren : (c x y : ℤ) (s : Plane) → Each (UAtMost c) s → (c +ℤ pos 1) <ℤ (x -ℤ y) → step s x y ≡ false
unfolding step
barren c x y s front far =
    let nw = past c (x -ℤ pos 1) (y -ℤ pos 1) s front (omega (arith, ints)) in
    let n = past c x (y -ℤ pos 1) s front (omega (arith, ints)) in
    let ne = past c (x +ℤ pos 1) (y -ℤ pos 1) s front (omega (arith, ints)) in
    let w = past c (x -ℤ pos 1) y s front (omega (arith, ints)) in
    let here = past c x y s front (omega (arith, ints)) in
    let e = past c (x +ℤ pos 1) y s front (omega (arith, ints)) in
    let t = past c x (y +ℤ pos 1) s front (omega (arith, ints)) in
    let se = past c (x +ℤ pos 1) (y +ℤ pos 1) s front (omega (arith, ints)) in
    rw (nw, n, ne, w, here, e, t, se) (lonely (s (x -ℤ pos 1) (y +ℤ pos 1)))

-- in one generation a front comes forward by one diagonal at most
front_step : (c : ℤ) (s : Plane) → Each (UAtMost c) s → Each (UAtMost (c +ℤ pos 1)) (step s)
front_step c s front x y lives = elim (cases_below (c +ℤ pos 1) (x -ℤ y)) [
  | inl far ↦ absurd (true≢false (sym lives ∙ barren c x y s front far))
  | inr near ↦ record { u = near }
]

-- ---- two generations

crowded : (b : Bool) → lives_on true (one_if true + one_if false + one_if false + one_if true + one_if false + one_if b + one_if true + one_if true) ≡ false
crowded true = refl
crowded false = refl

-- a cell at the front with these four neighbours dies
dies : (c x y : ℤ) (s : Plane) → Each (UAtMost c) s → (x -ℤ y) ≡ c → s x y ≡ true → s (x -ℤ pos 1) (y -ℤ pos 1) ≡ true → s (x -ℤ pos 1) y ≡ true → s x (y +ℤ pos 1) ≡ true →
    s (x +ℤ pos 1) (y +ℤ pos 1) ≡ true → step s x y ≡ false
unfolding step
dies c x y s front on here nw w t se =
    let n = past c x (y -ℤ pos 1) s front (omega (arith, ints)) in
    let ne = past c (x +ℤ pos 1) (y -ℤ pos 1) s front (omega (arith, ints)) in
    let e = past c (x +ℤ pos 1) y s front (omega (arith, ints)) in
    rw (nw, n, ne, w, here, e, t, se) (crowded (s (x -ℤ pos 1) (y +ℤ pos 1)))

moved_on : (s : Plane) (x y a b : ℤ) → s x y ≡ true → x ≡ a → y ≡ b → s a b ≡ true
moved_on s x y a b l ex ey = sym (λ i. s (ex i) (ey i)) ∙ l

-- nothing is born two diagonals past the front in two generations
stops : (c x y : ℤ) (s : Plane) → Each (UAtMost c) s → (x -ℤ y) ≡ (c +ℤ pos 1) +ℤ pos 1 → step (step s) x y ≡ true → ⊥
stops c x y s front on lives =
    let next = front_step c s front in
    let b = born (c +ℤ pos 1) x y (step s) next on lives in
    let west = born c (x -ℤ pos 1) y s front (omega (arith, ints)) b.west in
    let south = born c x (y +ℤ pos 1) s front (omega (arith, ints)) b.south in
    let dead = dies c (x -ℤ pos 1) (y +ℤ pos 1) s front (omega (arith, ints)) west.south
    (moved_on s _ _ _ _ west.west refl (omega (arith, ints)))
    west.south_west
    south.south_west
    (moved_on s _ _ _ _ south.south (omega (arith, ints)) refl) in
    true≢false (sym b.south_west ∙ dead)

front_two : (c : ℤ) (s : Plane) → Each (UAtMost c) s → Each (UAtMost (c +ℤ pos 1)) (step (step s))
front_two c s front x y lives =
    let most = (front_step (c +ℤ pos 1) (step s) (front_step c s front) x y lives).u in
    elim (cases_below (c +ℤ pos 1) (x -ℤ y)) [
      | inl far ↦ absurd (stops c x y s front (omega (arith, ints)) lives)
      | inr near ↦ record { u = near }
    ]

-- in so many generations a front comes forward by half as many diagonals
pub front_run : (t : ℕ) (c : ℤ) (s : Plane) → Each (UAtMost c) s → Each (UAtMost (c +ℤ pos ((t + 1) / 2))) (run t s)
front_run zero c s front x y lives = let u = (front x y lives).u in record { u = omega (arith, ints) }
front_run (suc zero) c s front x y lives = let u = (front_step c s front x y lives).u in record { u = omega (arith, ints) }
front_run (suc (suc t)) c s front x y lives =
    let u = (front_two (c +ℤ pos ((t + 1) / 2)) (run t s) (front_run t c s front) x y lives).u in
    let half : (suc (suc t) + 1) / 2 ≡ (t + 1) / 2 + 1 = omega arith in
    record { u = omega (arith, ints, half) }

-- ---- a glider that leads

-- it stays ahead of all that is behind it, and no generation is still
pub leader_never_still : (top lane j : ℤ) (rest : Plane) → Each (UAtMost (top -ℤ pos 9)) rest → (pos 2 *ℤ top) ≤ℤ ((pos 2 *ℤ lane +ℤ j) +ℤ pos 8) → NeverStill (union rest (salvo_glider lane j))
leader_never_still top lane j rest behind ahead t still =
    let runs : run t (union rest (salvo_glider lane j)) ≡ union (run t rest) (salvo_glider lane (j +ℤ pos t)) =
    run_union t rest (salvo_glider lane j) (record { each = λ k lt. subst (Apart (run k rest)) (sym (run_salvo k lane j)) (apart k) }) ∙ ap (union (run t rest)) (run_salvo t lane j) in
    let alone : IsStill (salvo_glider lane (j +ℤ pos t)) = second_still (run t rest) (salvo_glider lane (j +ℤ pos t)) (apart t) (subst IsStill runs still) in
    let left = salvo_left lane (j +ℤ pos t) in
    true≢false (sym left.lives ∙ ap (λ (p : Plane). p left.x left.y) (sym alone ∙ step_salvo lane (j +ℤ pos t)) ∙ left.dies)
  where
    apart : (k : ℕ) → Apart (run k rest) (salvo_glider lane (j +ℤ pos k))
    apart k = apart_by_u ((top -ℤ pos 9) +ℤ pos ((k + 1) / 2)) (run k rest) (salvo_glider lane (j +ℤ pos k)) (front_run k (top -ℤ pos 9) rest behind)
        (λ x y l. let b = (salvo_range lane (j +ℤ pos k) x y l).behind in record { u = omega (arith, ints) })

-- what isn't in front of a wall
behind : ℤ → Plane → Plane
behind wall s x y = s x y && not (int_le (wall +ℤ pos 5) (x -ℤ y))

split : (a b : Bool) → a ≡ ((a && not b) || (a && b))
split true true = refl
split true false = refl
split false true = refl
split false false = refl

not_true : (b : Bool) → not b ≡ true → b ≡ true → ⊥
not_true true h k = cc
not_true false h k = cc

-- a glider that is all that lives in the nine foremost diagonals leads what lives
pub led_never_still : (s : Plane) (top lane j : ℤ) → LivesOn top s → beyond (top -ℤ pos 13) s ≡ salvo_glider lane j → NeverStill s
unfolding behind
led_never_still s top lane j at is =
    let wall = top -ℤ pos 13 in
    let whole : s ≡ union (behind wall s) (salvo_glider lane j) =
    same_plane s (union (behind wall s) (beyond wall s)) (λ x y. split (s x y) (int_le (wall +ℤ pos 5) (x -ℤ y))) ∙ ap (union (behind wall s)) is in
    let on = at.on in
    let there : beyond wall s at.x at.y ≡ true = and_of at.lives (test_from_le (let far : (wall +ℤ pos 5) ≤ℤ (at.x -ℤ at.y) = omega (arith, ints) in far)) in
    let ahead = (salvo_range lane j at.x at.y (ap (λ (p : Plane). p at.x at.y) (sym is) ∙ there)).ahead in
    let low : Each (UAtMost (top -ℤ pos 9)) (behind wall s) = λ x y l. elim (cases_below (x -ℤ y) (wall +ℤ pos 5)) [
      | inl near ↦ record { u = omega (arith, ints) }
      | inr far ↦ absurd (not_true _ (and_parts _ _ l).1 (test_from_le far))
    ] in
    subst NeverStill (sym whole) (leader_never_still top lane j (behind wall s) low (omega (arith, ints)))
  where
    and_of : {a b : Bool} → a ≡ true → b ≡ true → (a && b) ≡ true
    and_of h k = cc

-- ---- the other directions

pub mirror_step : (s : Plane) → step (mirror s) ≡ mirror (step s)
unfolding step
mirror_step s = same_plane _ _ (λ x y.
    let left : neg_ℤ (x -ℤ pos 1) ≡ neg_ℤ x +ℤ pos 1 = omega (arith, ints) in
    let right : neg_ℤ (x +ℤ pos 1) ≡ neg_ℤ x -ℤ pos 1 = omega (arith, ints) in
    rw (left, right) (ap (lives_on (s (neg_ℤ x) y)) (omega arith)))

mirror_run : (t : ℕ) (s : Plane) → run t (mirror s) ≡ mirror (run t s)
mirror_run zero s = refl
mirror_run (suc t) s = ap step (mirror_run t s) ∙ mirror_step (run t s)

transpose_step : (s : Plane) → step (transpose s) ≡ transpose (step s)
unfolding step
transpose_step s = same_plane _ _ (λ x y. ap (lives_on (s y x)) (omega arith))

transpose_run : (t : ℕ) (s : Plane) → run t (transpose s) ≡ transpose (run t s)
transpose_run zero s = refl
transpose_run (suc t) s = ap step (transpose_run t s) ∙ transpose_step (run t s)

-- what never rests with x for y, or left for right, never rests
pub transposed_never_still : (s : Plane) → NeverStill (transpose s) → NeverStill s
transposed_never_still s h t still = h t (subst IsStill (sym (transpose_run t s)) (transpose_step (run t s) ∙ ap transpose still))

pub mirrored_never_still : (s : Plane) → NeverStill (mirror s) → NeverStill s
mirrored_never_still s h t still = h t (subst IsStill (sym (mirror_run t s)) (mirror_step (run t s) ∙ ap mirror still))

-- ---- what comes back

back_again : (p : ℕ) (s : Plane) → run p s ≡ s → (m : ℕ) → run (m * p) s ≡ s
back_again p s back zero = ap (λ k. run k s) (let e : 0 * p ≡ 0 = omega arith in e)
back_again p s back (suc m) =
    let once : suc m * p ≡ p + m * p = grind arith in
    ap (λ k. run k s) once ∙ run-add p (m * p) s ∙ ap (run p) (back_again p s back m) ∙ back

-- what isn't still, and comes back, never rests
periodic_never_still : (p : ℕ) (s : Plane) → 0 < p → run p s ≡ s → (IsStill s → ⊥) → NeverStill s
periodic_never_still p s some back moves t still =
    let long : t ≤ t * p = grind (arith, mul-le-mul_left t (let one : 1 ≤ p = omega arith in one)) in
    let sum : (t * p - t) + t ≡ t * p = omega arith in
    let rests : s ≡ run t s = sym (back_again p s back t) ∙ ap (λ k. run k s) (sym sum) ∙ run-add (t * p - t) t s ∙ still_run (run t s) still (t * p - t) in
    moves (subst IsStill (sym rests) still)

-- what is as it was in an earlier generation, which wasn't still, never rests
pub back_never_still : (start : Plane) (at later : ℕ) → at < later → run later start ≡ run at start → (IsStill (run at start) → ⊥) → NeverStill (run later start)
back_never_still start at later lt same moves =
    let sum : (later - at) + at ≡ later = omega arith in
    let back : run (later - at) (run at start) ≡ run at start = sym (run-add (later - at) at start) ∙ ap (λ k. run k start) sum ∙ same in
    subst NeverStill (sym same) (periodic_never_still (later - at) (run at start) (omega arith) back moves)
