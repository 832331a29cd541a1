-- Bounds and what is within distance 2 of them.
use Rattle.std.proofs.Common.{◌≡◌, ◌↔◌, IsTrue, ◌&&◌, ℤ, pos, ◌+ℤ◌, ◌-ℤ◌, ◌≤ℤ◌, inl, inr, arith}
use Rattle.std.specs.Prelude.{int_le}
use Rattle.std.proofs.lemmas.Int.{ints}
use Rattle.std.proofs.lemmas.Bool.{and_parts, and_from}
use Rattle.life_plane.specs.Plane.{Plane}
use Rattle.life_plane.specs.Strips.{Each}
use Rattle.life_plane.specs.NumberLaws.{cases_below, le_from_test, test_from_le}
use Rattle.life_cells.specs.declared.bounds.Bounds.{Bounds}
use Rattle.lane_clear.specs.Bare.{IsBare, IsOutside, HasCells, grown}
use Rattle.lane_clear.specs.Clear.{IsOffBounds}

pub has_cells_test : (b : Bounds) (left top right bottom : ℤ) → left ≡ b.left → top ≡ b.top → right ≡ b.right → bottom ≡ b.bottom → IsTrue (int_le left right && int_le top bottom) ↔ HasCells b
has_cells_test b left top right bottom el et er eb = (
  λ h.
      let parts = and_parts (int_le left right) (int_le top bottom) h in
      let c : left ≤ℤ right = le_from_test parts.0 in
      let r : top ≤ℤ bottom = le_from_test parts.1 in
      record { columns = omega (arith, ints); rows = omega (arith, ints) },
  λ h.
      let c : left ≤ℤ right = omega (arith, ints, h.columns) in
      let r : top ≤ℤ bottom = omega (arith, ints, h.rows) in
      and_from _ _ (test_from_le c) (test_from_le r),
)

-- a number from low to high within 2 of another, which is from 2 before low to 2 past high
record IsNear (low high z near : ℤ) : Type 0 where
  from : low ≤ℤ near
  to : near ≤ℤ high
  after : near ≤ℤ (z +ℤ pos 2)
  before : z ≤ℤ (near +ℤ pos 2)

nearest : (low high z : ℤ) → low ≤ℤ high → (low -ℤ pos 2) ≤ℤ z → z ≤ℤ (high +ℤ pos 2) → (near : ℤ) × IsNear low high z near
nearest low high z some from to = elim (cases_below z low) [
  | inl under ↦ (low, record { from = omega (arith, ints); to = some; after = omega (arith, ints); before = omega (arith, ints) })
  | inr over ↦ elim (cases_below high z) [
    | inl past ↦ (high, record { from = some; to = omega (arith, ints); after = omega (arith, ints); before = omega (arith, ints) })
    | inr within ↦ (z, record { from = over; to = within; after = omega (arith, ints); before = omega (arith, ints) })
  ]
]

-- a cell is off bounds that have a cell where it isn't in the grown ones
outside_where_off : (b : Bounds) (x y : ℤ) → HasCells b → IsOffBounds b x y → IsOutside (grown b) x y
outside_where_off b x y has off inside =
    let u = nearest b.left b.right x has.columns inside.right_of_left inside.left_of_right in
    let v = nearest b.top b.bottom y has.rows inside.below_top inside.above_bottom in
    off u.0 v.0 (record { right_of_left = u.1.from; below_top = v.1.from; left_of_right = u.1.to; above_bottom = v.1.to })
    (record { right = u.1.after; left = u.1.before; below = v.1.after; above = v.1.before })

off_where_outside : (b : Bounds) (x y : ℤ) → IsOutside (grown b) x y → IsOffBounds b x y
off_where_outside b x y out u v i w =
    let il = i.right_of_left in let ir = i.left_of_right in let it = i.below_top in let ib = i.above_bottom in
    let r = w.right in let l = w.left in let d = w.below in let e = w.above in
    out (record { right_of_left = omega (arith, ints); below_top = omega (arith, ints); left_of_right = omega (arith, ints); above_bottom = omega (arith, ints) })

pub bare_is_off : (b : Bounds) (s : Plane) → HasCells b → IsBare (grown b) s ↔ Each (IsOffBounds b) s
bare_is_off b s has = (λ bare x y l. off_where_outside b x y (bare x y l), λ off x y l. outside_where_off b x y has (off x y l))
