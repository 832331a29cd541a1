-- The laws of boxes and of ranges of coordinates.
use Rattle.std.specs.Prelude.{◌≡◌, true, ◌⊎◌, ℕ, zero, suc, ◌+◌, ◌<◌, ◌≤◌, ◌^◌, ℤ, pos, neg_ℤ, ◌≤ℤ◌, List, Option}
use Rattle.std.specs.List.{All}
use Rattle.std.proofs.Common.{sym, ap, ◌∙◌, subst, arith, inl, inr}
use Rattle.std.proofs.lemmas.Int.{ints, clamps}
use Rattle.std.proofs.lemmas.Option.{slice_get_within, get_or_from_slice_get}
use Rattle.std.proofs.lemmas.Bool.{or_cases, or_left, or_right}
use Rattle.life_cells.specs.declared.bounds.Bounds.{Bounds}
use Rattle.life_cells.specs.declared.cell.Cell.{Cell}
use Rattle.life_cells.specs.Cells.{cell, Cells, alive, in_order, from_list}
use Rattle.life_cells.specs.Laws.{alive-from_list_at, place_of_listed, alive_of_order}
use Rattle.life_cells.specs.Listed.{listed}
use Rattle.life_cells.specs.Boxes.{IsInRange, IsCellInRange, IsLeastBox, IsBoxOf, CanMove, box_of_both}
use Rattle.life_plane.specs.Plane.{Plane, step, run, union, nothing}
use Rattle.life_plane.specs.PlaneLaws.{union_none}
use Rattle.life_plane.specs.Apart.{Live, Dead}
use Rattle.life_plane.specs.ApartLaws.{live_or_dead, dead_step}

-- ---- ranges

pub range_wider : (m n : ℕ) (s : Plane) → IsInRange m s → m ≤ n → IsInRange n s
range_wider m n s h le = record {
  x_low = λ x y l. let k = h.x_low x y l in omega (arith, ints);
  x_high = λ x y l. let k = h.x_high x y l in omega (arith, ints);
  y_low = λ x y l. let k = h.y_low x y l in omega (arith, ints);
  y_high = λ x y l. let k = h.y_high x y l in omega (arith, ints);
}

-- the cells of a list are in range where those of its set are
pub range_of_list : (n : ℕ) (cs : List Cell) (s : Cells) → cs ≡ in_order s → IsInRange n (alive s) → IsInRange n (listed cs)
range_of_list n cs s e h = subst (IsInRange n) (sym (alive_of_order cs s e)) h

-- a cell that lives next is near one that lives now
pub near_live : (s : Plane) (x y : ℤ) → step s x y ≡ true → Live s x y
near_live s x y h = from (live_or_dead s x y)
  where
    from : (Live s x y) ⊎ (Dead s x y) → Live s x y
    from (inl l) = l
    from (inr d) = let e = dead_step s x y d in absurd (cc)

-- in a generation cells come at most one further
pub range_step : (n : ℕ) (s : Plane) → IsInRange n s → IsInRange (n + 1) (step s)
range_step n s h = record {
  x_low = λ x y l. let w = near_live s x y l in let k = h.x_low w.a w.b w.lives in omega (arith, ints, w.near.right);
  x_high = λ x y l. let w = near_live s x y l in let k = h.x_high w.a w.b w.lives in omega (arith, ints, w.near.left);
  y_low = λ x y l. let w = near_live s x y l in let k = h.y_low w.a w.b w.lives in omega (arith, ints, w.near.below);
  y_high = λ x y l. let w = near_live s x y l in let k = h.y_high w.a w.b w.lives in omega (arith, ints, w.near.above);
}

-- in k generations cells come at most k further
pub range_run : (k n : ℕ) (s : Plane) → IsInRange n s → IsInRange (n + k) (run k s)
range_run zero n s h = range_wider n (n + 0) s h (omega arith)
range_run (suc k) n s h = range_wider ((n + k) + 1) (n + suc k) (step (run k s)) (range_step (n + k) (run k s) (range_run k n s h)) (omega arith)

pub range_union : (n : ℕ) (s t : Plane) → IsInRange n s → IsInRange n t → IsInRange n (union s t)
range_union n s t h k = record {
  x_low = λ x y l. elim (or_cases (s x y) (t x y) l) [ inl a ↦ h.x_low x y a | inr a ↦ k.x_low x y a ];
  x_high = λ x y l. elim (or_cases (s x y) (t x y) l) [ inl a ↦ h.x_high x y a | inr a ↦ k.x_high x y a ];
  y_low = λ x y l. elim (or_cases (s x y) (t x y) l) [ inl a ↦ h.y_low x y a | inr a ↦ k.y_low x y a ];
  y_high = λ x y l. elim (or_cases (s x y) (t x y) l) [ inl a ↦ h.y_high x y a | inr a ↦ k.y_high x y a ];
}

-- cells of a small range keep 64 bits in a small move
pub can_move : (n m : ℕ) (dx dy : ℤ) (s : Plane) → IsInRange n s → n + m < 2 ^ 63 → neg_ℤ (pos m) ≤ℤ dx → dx ≤ℤ pos m → neg_ℤ (pos m) ≤ℤ dy → dy ≤ℤ pos m → CanMove dx dy s
can_move n m dx dy s h lt a b c d = record {
  x = λ x y l. let low = h.x_low x y l in let high = h.x_high x y l in omega (arith, ints);
  y = λ x y l. let low = h.y_low x y l in let high = h.y_high x y l in omega (arith, ints);
}

-- what holds of each listed cell holds of each live one
pub each_alive : (P : Cell → Type 0) (cs : List Cell) → All P cs → (x y : ℤ) → alive (from_list cs) x y ≡ true → P (cell x y)
each_alive P cs all x y l =
    let there = place_of_listed cs x y (sym (alive-from_list_at cs x y) ∙ l) in
    subst P (get_or_from_slice_get cs there.0 (cell x y) (cell x y) there.1) (all there.0 (cell x y) (slice_get_within cs there.0 (cell x y) there.1))

pub range_from_list : (n : ℕ) (cs : List Cell) → All (IsCellInRange n) cs → IsInRange n (alive (from_list cs))
range_from_list n cs all = record {
  x_low = λ x y l. (each_alive (IsCellInRange n) cs all x y l).x_low;
  x_high = λ x y l. (each_alive (IsCellInRange n) cs all x y l).x_high;
  y_low = λ x y l. (each_alive (IsCellInRange n) cs all x y l).y_low;
  y_high = λ x y l. (each_alive (IsCellInRange n) cs all x y l).y_high;
}

-- ---- boxes

level : (a b : ℤ) → a ≤ℤ b → b ≤ℤ a → a ≡ b
level a b h k = omega (arith, ints)

-- a plane has one least box
pub one_least_box : (s : Plane) (a b : Bounds) → IsLeastBox a s → IsLeastBox b s → a ≡ b
one_least_box s a b h k =
    let ab = h.least b k.holds in
    let ba = k.least a h.holds in
    λ i. record { left = level a.left b.left ba.left ab.left i; top = level a.top b.top ba.top ab.top i; right = level a.right b.right ab.right ba.right i; bottom = level a.bottom b.bottom ab.bottom ba.bottom i }

-- the least box about two planes
pub least_of_both : (a b : Bounds) (s t : Plane) → IsLeastBox a s → IsLeastBox b t → IsLeastBox (box_of_both a b) (union s t)
least_of_both a b s t f g = record {
  holds = record {
    each = λ x y l. elim (or_cases (s x y) (t x y) l) [
      | inl k ↦ let i = f.holds.each x y k in record { right_of_left = omega (arith, ints, clamps, i.right_of_left); below_top = omega (arith, ints, clamps, i.below_top); left_of_right = omega (arith, ints, clamps, i.left_of_right); above_bottom = omega (arith, ints, clamps, i.above_bottom) }
      | inr k ↦ let i = g.holds.each x y k in record { right_of_left = omega (arith, ints, clamps, i.right_of_left); below_top = omega (arith, ints, clamps, i.below_top); left_of_right = omega (arith, ints, clamps, i.left_of_right); above_bottom = omega (arith, ints, clamps, i.above_bottom) }
    ];
  };
  least = λ other k.
      let v = f.least other (record { each = λ x y l. k.each x y (or_left (s x y) (t x y) l) }) in
      let w = g.least other (record { each = λ x y l. k.each x y (or_right (s x y) (t x y) l) }) in
      record { left = omega (arith, ints, clamps, v.left, w.left); top = omega (arith, ints, clamps, v.top, w.top); right = omega (arith, ints, clamps, v.right, w.right); bottom = omega (arith, ints, clamps, v.bottom, w.bottom) };
  lives = (f.lives.0, (f.lives.1.0, or_left (s f.lives.0 f.lives.1.0) (t f.lives.0 f.lives.1.0) f.lives.1.1));
}

-- with nothing more the box stays
pub box_stays : (found : Option Bounds) (s t : Plane) → t ≡ nothing → IsBoxOf found s → IsBoxOf found (union s t)
box_stays found s t e h = subst (IsBoxOf found) (sym (ap (union s) e ∙ union_none s)) h
