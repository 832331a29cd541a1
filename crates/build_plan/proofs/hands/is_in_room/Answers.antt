use Rattle.std.proofs.Common.{◌≡◌, ◌↔◌, IsTrue, ℤ, ◌≤ℤ◌, ◌&&◌, w64, to_z, of_z, arith}
use Rattle.std.proofs.lemmas.Int.{ints}
use Rattle.std.proofs.lemmas.Bool.{and_parts, and_from}
use lib.Signed.{le_z}
use Rattle.life_plane.specs.NumberLaws.{le_from_test, test_from_le}
use Rattle.life_cells.specs.Boxes.{InBox}
use Rattle.life_cells.specs.declared.bounds.Bounds.{Bounds}
use Rattle.build_plan.proofs.hands.is_in_room.Goals as goal

-- the four tests of a place
in_box : (room : Bounds) (x y left top right bottom across down : ℤ) → left ≡ room.left → top ≡ room.top → right ≡ room.right → bottom ≡ room.bottom → across ≡ x → down ≡ y →
    IsTrue (((le_z left across && le_z top down) && le_z across right) && le_z down bottom) ↔ InBox room x y
in_box room x y left top right bottom across down l t r b a d = (
  λ h.
      let one = and_parts ((le_z left across && le_z top down) && le_z across right) (le_z down bottom) h in
      let two = and_parts (le_z left across && le_z top down) (le_z across right) one.0 in
      let three = and_parts (le_z left across) (le_z top down) two.0 in
      let low_x : left ≤ℤ across = le_from_test three.0 in
      let low_y : top ≤ℤ down = le_from_test three.1 in
      let high_x : across ≤ℤ right = le_from_test two.1 in
      let high_y : down ≤ℤ bottom = le_from_test one.1 in
      record { right_of_left = omega (arith, ints); below_top = omega (arith, ints); left_of_right = omega (arith, ints); above_bottom = omega (arith, ints) },
  λ i.
      let low_x : left ≤ℤ across = omega (arith, ints) in
      let low_y : top ≤ℤ down = omega (arith, ints) in
      let high_x : across ≤ℤ right = omega (arith, ints) in
      let high_y : down ≤ℤ bottom = omega (arith, ints) in
      and_from ((le_z left across && le_z top down) && le_z across right) (le_z down bottom)
      (and_from (le_z left across && le_z top down) (le_z across right) (and_from (le_z left across) (le_z top down) (test_from_le low_x) (test_from_le low_y)) (test_from_le high_x)) (test_from_le high_y),
)

-- a number, as it is passed
abbrev passed : ℤ → ℤ
passed z = to_z w64 (of_z w64 z)

pub returns : goal.returns
returns c =
    let room = c.args.room in
    let at = c.args.at in
    in_box room at.x at.y (passed room.left) (passed room.top) (passed room.right) (passed room.bottom) (passed at.x) (passed at.y)
    (omega (arith, ints)) (omega (arith, ints)) (omega (arith, ints)) (omega (arith, ints)) (omega (arith, ints)) (omega (arith, ints))
