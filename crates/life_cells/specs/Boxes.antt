-- Boxes and ranges of coordinates.
use Rattle.std.specs.Prelude.{◌≡◌, true, ℕ, ℤ, pos, neg_ℤ, ◌≤ℤ◌, ◌+ℤ◌, FitsSigned}
use Rattle.std.specs.declared.option.Option.{Option}
use Rattle.std.specs.declared.option.Option.TheVariants.{Some, None}
use Rattle.std.specs.Int.{w64, int_min, int_max}
use Rattle.life_plane.specs.Plane.{Plane, nothing}
use Rattle.life_cells.specs.declared.bounds.Bounds.{Bounds}
use Rattle.life_cells.specs.declared.cell.Cell.{Cell}

-- the cell lies in the box, both ends within
pub record InBox (box : Bounds) (x y : ℤ) : Type 0 where
  pub right_of_left : box.left ≤ℤ x
  pub below_top : box.top ≤ℤ y
  pub left_of_right : x ≤ℤ box.right
  pub above_bottom : y ≤ℤ box.bottom

-- the box holds each live cell
pub record Holds (box : Bounds) (s : Plane) : Type 0 where
  pub each : (x y : ℤ) → s x y ≡ true → InBox box x y

-- a box within another
pub record IsWithin (inner outer : Bounds) : Type 0 where
  pub left : outer.left ≤ℤ inner.left
  pub top : outer.top ≤ℤ inner.top
  pub right : inner.right ≤ℤ outer.right
  pub bottom : inner.bottom ≤ℤ outer.bottom

-- the least box that holds a plane with a live cell: no side of it can be moved in
pub record IsLeastBox (box : Bounds) (s : Plane) : Type 0 where
  pub holds : Holds box s
  pub least : (other : Bounds) → Holds other s → IsWithin box other
  pub lives : (x : ℤ) × ((y : ℤ) × (s x y ≡ true))

-- the least box of a plane, or none where nothing lives
abbrev pub IsBoxOf : Option Bounds → Plane → Type 0
IsBoxOf None s = s ≡ nothing
IsBoxOf (Some box) s = IsLeastBox box s

-- the least box that holds both
abbrev pub box_of_both : Bounds → Bounds → Bounds
box_of_both a b = record { left = int_min a.left b.left; top = int_min a.top b.top; right = int_max a.right b.right; bottom = int_max a.bottom b.bottom }

-- each live cell has coordinates from -n to n
pub record IsInRange (n : ℕ) (s : Plane) : Type 0 where
  pub x_low : (x y : ℤ) → s x y ≡ true → neg_ℤ (pos n) ≤ℤ x
  pub x_high : (x y : ℤ) → s x y ≡ true → x ≤ℤ pos n
  pub y_low : (x y : ℤ) → s x y ≡ true → neg_ℤ (pos n) ≤ℤ y
  pub y_high : (x y : ℤ) → s x y ≡ true → y ≤ℤ pos n

-- each live cell, moved right by dx and down by dy, keeps coordinates of 64 bits
pub record CanMove (dx dy : ℤ) (s : Plane) : Type 0 where
  pub x : (x y : ℤ) → s x y ≡ true → FitsSigned w64 (x +ℤ dx)
  pub y : (x y : ℤ) → s x y ≡ true → FitsSigned w64 (y +ℤ dy)

-- the cell has coordinates from -n to n
pub record IsCellInRange (n : ℕ) (c : Cell) : Type 0 where
  pub x_low : neg_ℤ (pos n) ≤ℤ c.x
  pub x_high : c.x ≤ℤ pos n
  pub y_low : neg_ℤ (pos n) ≤ℤ c.y
  pub y_high : c.y ≤ℤ pos n

-- the sides of a box lie from -n to n
pub record IsBoxInRange (n : ℕ) (box : Bounds) : Type 0 where
  pub left_low : neg_ℤ (pos n) ≤ℤ box.left
  pub left_high : box.left ≤ℤ pos n
  pub top_low : neg_ℤ (pos n) ≤ℤ box.top
  pub top_high : box.top ≤ℤ pos n
  pub right_low : neg_ℤ (pos n) ≤ℤ box.right
  pub right_high : box.right ≤ℤ pos n
  pub bottom_low : neg_ℤ (pos n) ≤ℤ box.bottom
  pub bottom_high : box.bottom ≤ℤ pos n
