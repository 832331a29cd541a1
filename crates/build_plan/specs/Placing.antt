-- Where a target is built, and the room about it.
use Rattle.std.specs.Prelude.{◌≡◌, ◌⊎◌, pos, neg_ℤ, ◌+ℤ◌, ◌-ℤ◌}
use Rattle.life_plane.specs.Plane.{Plane, nothing, shift}
use Rattle.life_cells.specs.declared.cell.Cell.{Cell}
use Rattle.life_cells.specs.declared.bounds.Bounds.{Bounds}
use Rattle.life_cells.specs.Cells.{cell}
use Rattle.life_cells.specs.Boxes.{IsLeastBox}
use Rattle.book_parts.specs.declared.settings.Settings.{Settings}
use Rattle.build_plan.specs.declared.placing.Placing.{Placing}

-- the target where it is built
abbrev pub moved_target : Plane → Cell → Plane
moved_target target by = shift by.x by.y target

-- the shift back to the target's own place
abbrev pub back_of : Cell → Cell
back_of by = cell (neg_ℤ by.x) (neg_ℤ by.y)

-- the move that brings the lower left corner of a box to the corner
abbrev pub to_corner : Cell → Bounds → Cell
to_corner corner box = cell (corner.x -ℤ box.left) (corner.y -ℤ box.bottom)

-- a box, moved by this and made wider by the room on each side
abbrev pub room_about : Settings → Cell → Bounds → Bounds
room_about settings by box = record {
  left = (box.left +ℤ by.x) -ℤ settings.room;
  top = (box.top +ℤ by.y) -ℤ settings.room;
  right = (box.right +ℤ by.x) +ℤ settings.room;
  bottom = (box.bottom +ℤ by.y) +ℤ settings.room;
}

-- no cell lives; then nothing is moved, and no hand needs room
pub record IsEmptyPlacing (target : Plane) (placing : Placing) : Type 0 where
  pub empty : target ≡ nothing
  pub by_none : placing.by ≡ cell (pos 0) (pos 0)
  pub no_room : placing.room ≡ record { left = pos 0; top = pos 0; right = pos 0; bottom = pos 0 }

-- the lower left corner of the target's least box comes to the book's corner
pub record IsBoxPlacing (settings : Settings) (target : Plane) (placing : Placing) : Type 0 where
  pub box : Bounds
  pub least : IsLeastBox box target
  pub by_is : placing.by ≡ to_corner settings.corner box
  pub room_is : placing.room ≡ room_about settings placing.by box

-- how far a target is moved, and the room for the hand's places
abbrev pub IsPlacing : Settings → Plane → Placing → Type 0
IsPlacing settings target placing = IsEmptyPlacing target placing ⊎ IsBoxPlacing settings target placing
