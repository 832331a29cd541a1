-- Numbers as they are kept in 64 bits, and tests of them.
use Rattle.std.proofs.Common.{◌≡◌, ℕ, ◌^◌, ℤ, pos, negsuc, neg_ℤ, ◌+ℤ◌, ◌-ℤ◌, ◌≤ℤ◌, w64, to_z, of_z, IsTrue, ◌↔◌, sym, subst, arith}
use lib.Signed.{le_z}
use Rattle.std.proofs.lemmas.Int.{ints}
use Rattle.life_plane.specs.NumberLaws.{le_from_test, test_from_le}
use Rattle.life_cells.specs.declared.bounds.Bounds.{Bounds}
use Rattle.life_cells.specs.Boxes.{IsBoxInRange}
use Rattle.find_turn.specs.Boxes.{IsMovedBox, IsNear}

-- a number that isn't far out is read as what it was
pub kept : (z : ℤ) → neg_ℤ (pos (2 ^ 60)) ≤ℤ z → z ≤ℤ pos (2 ^ 60) → to_z w64 (of_z w64 z) ≡ z
kept z low high = omega (arith, ints)

-- a test of two numbers as they are kept decides what hangs on their order
pub test_decides : (a b x y : ℤ) → a ≡ x → b ≡ y → IsTrue (le_z a b) ↔ (x ≤ℤ y)
test_decides a b x y ea eb = (
  λ test. subst (λ z. x ≤ℤ z) eb (subst (λ z. z ≤ℤ b) ea (le_from_test test)),
  λ le. test_from_le (subst (λ z. a ≤ℤ z) (sym eb) (subst (λ z. z ≤ℤ y) (sym ea) le)),
)

-- ---- the sides of a moved box

abbrev read : ℤ → ℤ
read z = to_z w64 (of_z w64 z)

-- a side is moved as far as the top, as it is read
abbrev pub IsMovedSide : ℤ → ℤ → ℤ → ℤ → Type 0
IsMovedSide to from top from_top = read to ≡ read from +ℤ read (read top -ℤ read from_top)

-- sides that are near
record AreNear (n : ℕ) (to from top from_top : ℤ) : Type 0 where
  a : neg_ℤ (pos n) ≤ℤ to
  b : to ≤ℤ pos n
  c : neg_ℤ (pos n) ≤ℤ from
  d : from ≤ℤ pos n
  e : neg_ℤ (pos n) ≤ℤ top
  f : top ≤ℤ pos n
  g : neg_ℤ (pos n) ≤ℤ from_top
  h : from_top ≤ℤ pos n

side_is : (to from top from_top : ℤ) → AreNear (2 ^ 41) to from top from_top → IsMovedSide to from top from_top → to ≡ from +ℤ (top -ℤ from_top)
side_is to from top from_top near same = omega (arith, ints)

side_moves : (to from top from_top advance : ℤ) → AreNear (2 ^ 41) to from top from_top → to ≡ from +ℤ advance → top ≡ from_top +ℤ advance → IsMovedSide to from top from_top
side_moves to from top from_top advance near side up = omega (arith, ints)

top_moves : (to from : ℤ) → to ≡ from +ℤ (to -ℤ from)
top_moves to from = omega (arith, ints)

lefts : (from to : Bounds) → IsBoxInRange (2 ^ 30) from → IsBoxInRange (2 ^ 41) to → AreNear (2 ^ 41) to.left from.left to.top from.top
lefts from to f t =
    let a = f.left_low in let b = f.left_high in let c = f.top_low in let d = f.top_high in
    record { a = t.left_low; b = t.left_high; c = omega (arith, ints); d = omega (arith, ints); e = t.top_low; f = t.top_high; g = omega (arith, ints); h = omega (arith, ints) }

rights : (from to : Bounds) → IsBoxInRange (2 ^ 30) from → IsBoxInRange (2 ^ 41) to → AreNear (2 ^ 41) to.right from.right to.top from.top
rights from to f t =
    let a = f.right_low in let b = f.right_high in let c = f.top_low in let d = f.top_high in
    record { a = t.right_low; b = t.right_high; c = omega (arith, ints); d = omega (arith, ints); e = t.top_low; f = t.top_high; g = omega (arith, ints); h = omega (arith, ints) }

bottoms : (from to : Bounds) → IsBoxInRange (2 ^ 30) from → IsBoxInRange (2 ^ 41) to → AreNear (2 ^ 41) to.bottom from.bottom to.top from.top
bottoms from to f t =
    let a = f.bottom_low in let b = f.bottom_high in let c = f.top_low in let d = f.top_high in
    record { a = t.bottom_low; b = t.bottom_high; c = omega (arith, ints); d = omega (arith, ints); e = t.top_low; f = t.top_high; g = omega (arith, ints); h = omega (arith, ints) }

-- the box is moved exactly where its sides are
pub box_moves : (from to : Bounds) → IsBoxInRange (2 ^ 30) from → IsBoxInRange (2 ^ 41) to → IsMovedSide to.left from.left to.top from.top → IsMovedSide to.right from.right to.top from.top →
    IsMovedSide to.bottom from.bottom to.top from.top → IsMovedBox from to
box_moves from to f t left right bottom = record {
  advance = to.top -ℤ from.top;
  left = side_is to.left from.left to.top from.top (lefts from to f t) left;
  top = top_moves to.top from.top;
  right = side_is to.right from.right to.top from.top (rights from to f t) right;
  bottom = side_is to.bottom from.bottom to.top from.top (bottoms from to f t) bottom;
}

pub left_moves : (from to : Bounds) → IsBoxInRange (2 ^ 30) from → IsBoxInRange (2 ^ 41) to → IsMovedBox from to → IsMovedSide to.left from.left to.top from.top
left_moves from to f t m = side_moves to.left from.left to.top from.top m.advance (lefts from to f t) m.left m.top

pub right_moves : (from to : Bounds) → IsBoxInRange (2 ^ 30) from → IsBoxInRange (2 ^ 41) to → IsMovedBox from to → IsMovedSide to.right from.right to.top from.top
right_moves from to f t m = side_moves to.right from.right to.top from.top m.advance (rights from to f t) m.right m.top

pub bottom_moves : (from to : Bounds) → IsBoxInRange (2 ^ 30) from → IsBoxInRange (2 ^ 41) to → IsMovedBox from to → IsMovedSide to.bottom from.bottom to.top from.top
bottom_moves from to f t m = side_moves to.bottom from.bottom to.top from.top m.advance (bottoms from to f t) m.bottom m.top

pub read_near : (z : ℤ) → IsNear z → to_z w64 (of_z w64 z) ≡ z
read_near z near = let low = near.low in let high = near.high in omega (arith, ints)

-- a natural number that is no less
pub up_to : (z : ℤ) → (k : ℕ) × (z ≤ℤ pos k)
up_to (pos n) = (n, omega (arith, ints))
up_to (negsuc n) = (0, omega (arith, ints))
