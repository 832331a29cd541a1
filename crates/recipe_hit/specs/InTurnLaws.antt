-- Hits one after the other.
use Rattle.std.proofs.Common.{◌≡◌, ℕ, zero, suc, ◌+◌, ◌*◌, ◌-◌, ◌^◌, ◌<◌, ◌≤◌, true, ℤ, pos, neg_ℤ, ◌+ℤ◌, ◌*ℤ◌, ◌≤ℤ◌, List, [], ◌∷◌, ◌++◌, length, Some, refl, sym, ap, subst, ◌∙◌, arith}
use Rattle.std.specs.List.{slice_get}
use Rattle.std.proofs.lemmas.Int.{ints}
use Rattle.std.proofs.lemmas.Bool.{or_right}
use Rattle.life_plane.specs.Plane.{Plane}
use Rattle.life_plane.specs.Salvo.{salvo_glider}
use Rattle.life_plane.specs.SalvoLaws.{salvo_front, salvo_range, salvo_corner}
use Rattle.life_cells.specs.Cells.{alive}
use Rattle.life_cells.specs.Boxes.{IsInRange, IsBoxInRange}
use Rattle.life_cells.specs.BoxLaws.{range_wider}
use Rattle.book_parts.specs.Limits.{IsCoordinate, farthest}
use Rattle.book_parts.specs.Proper.{IsProperHand}
use Rattle.recipe_hit.specs.declared.frame.Hit.{Hit}
use Rattle.recipe_hit.specs.Strike.{first_quarter, hit_start, IsHit, beyond}
use Rattle.recipe_hit.specs.Sound.{AreHits, what_is_left}
use Rattle.recipe_hit.specs.Checked.{IsSmall, IsSmallFrame, AreSmallFrames}
use Rattle.life_cells.specs.BoxRangeLaws.{box_in_range, range_of_box}
use Rattle.recipe_hit.specs.SceneHitLaws.{in_ever}
use Rattle.book_parts.specs.declared.limits.TheConstants.{MOST_LANES}

-- ---- what is left

left_at : (start : Plane) (hits : List Hit) (hit : Hit) (k : ℕ) → suc k ≡ length hits → Some hit ≡ slice_get hits k → alive hit.after ≡ what_is_left start hits
left_at start [] hit k n at = absurd (omega (arith, n))
left_at start (one ∷ []) hit zero n at = ap (λ (h : Hit). alive h.after) (let e : hit ≡ one = cc in e)
left_at start (one ∷ []) hit (suc k) n at = absurd (omega (arith, n))
left_at start (one ∷ (other ∷ hits)) hit zero n at = absurd (omega (arith, n))
left_at start (one ∷ (other ∷ hits)) hit (suc k) n at = left_at (alive one.after) (other ∷ hits) hit k (omega (arith, n)) at

-- the last hit leaves what is left
pub left_last : (start : Plane) (hits : List Hit) (hit : Hit) → Some hit ≡ slice_get hits (length hits - 1) → alive hit.after ≡ what_is_left start hits
left_last start [] hit at = cc
left_last start (one ∷ hits) hit at = left_at start (one ∷ hits) hit (length (one ∷ hits) - 1) (omega arith) at

pub left_is : (start left : Plane) (hits read : List Hit) → left ≡ what_is_left start read → read ≡ hits → left ≡ what_is_left start hits
left_is start left hits read is same = is ∙ ap (what_is_left start) same

-- one hit more
pub left_more : (start : Plane) (hits : List Hit) (hit : Hit) → what_is_left start (hits ++ hit ∷ []) ≡ alive hit.after
left_more start [] hit = refl
left_more start (one ∷ hits) hit = left_more (alive one.after) hits hit

pub hits_more : (start : Plane) (lanes : List ℤ) (hits : List Hit) (lane : ℤ) (hit : Hit) → AreHits start lanes hits → IsHit (what_is_left start hits) lane hit → AreHits start (lanes ++ lane ∷ []) (hits ++ hit ∷ [])
hits_more start [] [] lane hit h is = (is, tt)
hits_more start [] (one ∷ hits) lane hit h is = absurd h
hits_more start (l ∷ lanes) [] lane hit h is = absurd h
hits_more start (l ∷ lanes) (one ∷ hits) lane hit h is = (h.0, hits_more (alive one.after) lanes hits lane hit h.1 is)

pub small_more : (hits : List Hit) (hit : Hit) → AreSmallFrames hits → IsSmallFrame hit.frame → AreSmallFrames (hits ++ hit ∷ [])
small_more [] hit h is = (is, tt)
small_more (one ∷ hits) hit h is = (h.0, small_more hits hit h.1 is)

-- ---- how far a hit goes

-- its bounds lie at most 8,192 further out than what is struck
bounds_range : (n : ℕ) (struck : Plane) (lane : ℤ) (hit : Hit) → IsInRange n struck → IsHit struck lane hit → IsBoxInRange (n + beyond) hit.frame.bounds
bounds_range n struck lane hit range h =
    let box = box_in_range n h.box struck h.box_is range in
    let left = h.near.left in let top = h.near.top in let right = h.near.right in let bottom = h.near.bottom in
    let live = h.bounds.lives in
    let inside = h.bounds.holds.each live.0 live.1.0 live.1.1 in
    let a = inside.right_of_left in let b = inside.below_top in let c = inside.left_of_right in let d = inside.above_bottom in
    let p = box.left_low in let q = box.top_low in let r = box.right_high in let s = box.bottom_high in
    record {
      left_low = omega (arith, ints);
      left_high = omega (arith, ints);
      top_low = omega (arith, ints);
      top_high = omega (arith, ints);
      right_low = omega (arith, ints);
      right_high = omega (arith, ints);
      bottom_low = omega (arith, ints);
      bottom_high = omega (arith, ints);
    }

-- and so does what it leaves
pub after_range : (n : ℕ) (struck : Plane) (lane : ℤ) (hit : Hit) → IsInRange n struck → IsHit struck lane hit → IsInRange (n + beyond) (alive hit.after)
after_range n struck lane hit range h =
    range_of_box (n + beyond) hit.frame.bounds (alive hit.after) (record {
      each = λ x y l. h.bounds.holds.each x y (in_ever hit.generations hit.generations (hit_start struck h.box lane) x y (omega arith) (ap (λ (p : Plane). p x y) (sym h.leaves) ∙ l));
    }) (bounds_range n struck lane hit range h)

-- where the glider begins, by the rows of its cells
start_near : (lane quarter x y : ℤ) → salvo_glider lane (pos 4 *ℤ quarter) x y ≡ true → (neg_ℤ y ≤ℤ (quarter +ℤ pos 3)) × (quarter ≤ℤ neg_ℤ y)
start_near lane quarter x y l =
    let c = salvo_corner lane (pos 4 *ℤ quarter) x y l in
    let r = salvo_range lane (pos 4 *ℤ quarter) x y l in
    let up = c.up in let behind = r.behind in let high = r.high in
    (omega (arith, ints), omega (arith, ints))

-- the numbers of a hit at a hand are small
pub small_frame : (n : ℕ) (struck : Plane) (lane : ℤ) (hit : Hit) → n + beyond ≤ farthest + 2 ^ 19 → IsCoordinate lane → IsInRange n struck → IsHit struck lane hit → IsSmallFrame hit.frame
small_frame n struck lane hit few on range h =
    let b = bounds_range n struck lane hit range h in
    let front = salvo_front lane (pos 4 *ℤ first_quarter h.box lane) in
    let inside = h.bounds.holds.each front.x front.y
    (in_ever hit.generations 0 (hit_start struck h.box lane) front.x front.y (omega arith) (or_right (struck front.x front.y) (salvo_glider lane (pos 4 *ℤ first_quarter h.box lane) front.x front.y) front.lives)) in
    let near = start_near lane (first_quarter h.box lane) front.x front.y front.lives in
    let low = near.0 in let high = near.1 in
    let top = inside.below_top in let bottom = inside.above_bottom in
    let top_low = b.top_low in let bottom_high = b.bottom_high in
    let lane_low = on.low in let lane_high = on.high in
    record {
      lane = subst IsSmall (sym h.lane_is) (record { low = omega (arith, ints); high = omega (arith, ints) });
      start = subst IsSmall (sym h.start_is) (record { low = omega (arith, ints); high = omega (arith, ints) });
      left = record { low = omega (arith, ints, b.left_low); high = omega (arith, ints, b.left_high) };
      top = record { low = omega (arith, ints, b.top_low); high = omega (arith, ints, b.top_high) };
      right = record { low = omega (arith, ints, b.right_low); high = omega (arith, ints, b.right_high) };
      bottom = record { low = omega (arith, ints, b.bottom_low); high = omega (arith, ints, b.bottom_high) };
    }

-- the hand's range
pub hand_range : (s : Plane) → IsProperHand s → IsInRange farthest s
hand_range s h = record {
  x_low = λ x y l. let k = h.x x y l in omega (arith, ints, k.low);
  x_high = λ x y l. (h.x x y l).high;
  y_low = λ x y l. let k = h.y x y l in omega (arith, ints, k.low);
  y_high = λ x y l. (h.y x y l).high;
}

-- one hit more at a hand: its frame is small, and what it leaves lies not much further out
pub small_after : (struck : Plane) (hits all : List Hit) (place : ℕ) (lane : ℤ) (hit : Hit) → place < MOST_LANES → IsCoordinate lane → IsInRange (farthest + beyond * place) struck → IsHit struck lane hit →
    all ≡ hits ++ hit ∷ [] → AreSmallFrames hits → AreSmallFrames all
small_after struck hits all place lane hit few on range is grown before =
    subst AreSmallFrames (sym grown) (small_more hits hit before (small_frame (farthest + beyond * place) struck lane hit (omega arith) on range is))

pub range_after : (start struck : Plane) (hits all : List Hit) (place : ℕ) (lane : ℤ) (hit : Hit) → IsInRange (farthest + beyond * place) struck → IsHit struck lane hit → all ≡ hits ++ hit ∷ [] →
    IsInRange (farthest + beyond * (place + 1)) (what_is_left start all)
range_after start struck hits all place lane hit range is grown =
    let left : what_is_left start all ≡ alive hit.after = ap (what_is_left start) grown ∙ left_more start hits hit in
    subst (IsInRange (farthest + beyond * (place + 1))) (sym left)
    (range_wider ((farthest + beyond * place) + beyond) (farthest + beyond * (place + 1)) (alive hit.after) (after_range (farthest + beyond * place) struck lane hit range is) (omega arith))
