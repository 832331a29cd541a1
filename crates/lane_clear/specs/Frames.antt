-- A hit's frame, moved to the hand's place.
use Rattle.std.specs.Prelude.{ℕ, ◌^◌, ℤ, pos, neg_ℤ, ◌+ℤ◌, ◌-ℤ◌}
use Rattle.life_cells.specs.declared.cell.Cell.{Cell}
use Rattle.life_cells.specs.declared.bounds.Bounds.{Bounds}
use Rattle.life_cells.specs.Boxes.{IsBoxInRange}
use Rattle.book_parts.specs.Limits.{IsFrom}
use Rattle.recipe_hit.specs.declared.frame.HitFrame.{HitFrame}

-- bounds moved to the hand's place
abbrev pub moved_bounds : Cell → Bounds → Bounds
moved_bounds place b = record { left = b.left +ℤ place.x; top = b.top +ℤ place.y; right = b.right +ℤ place.x; bottom = b.bottom +ℤ place.y }

-- a frame moved to the hand's place: the lane is x + y more, and the hit begins y quarters earlier
abbrev pub moved_frame : Cell → HitFrame → HitFrame
moved_frame place f = record { lane = (f.lane +ℤ place.x) +ℤ place.y; start = f.start -ℤ place.y; bounds = moved_bounds place f.bounds }

-- the farthest of what clearance is asked of
abbrev pub farthest : ℕ
farthest = 2 ^ 52

abbrev pub IsWithin : ℕ → ℤ → Type 0
IsWithin n z = IsFrom (neg_ℤ (pos n)) (pos n) z

-- lane, quarter and bounds of a frame lie from -n to n
pub record IsFrameInRange (n : ℕ) (f : HitFrame) : Type 0 where
  pub lane : IsWithin n f.lane
  pub start : IsWithin n f.start
  pub bounds : IsBoxInRange n f.bounds
