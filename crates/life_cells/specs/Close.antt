-- Live cells close to a place.
use Rattle.std.specs.Prelude.{◌≡◌, Bool, true, false, ◌&&◌, ℕ, ◌≤◌, ℤ, pos, ◌+ℤ◌, ◌-ℤ◌, ◌≤ℤ◌, int_le, List, length}
use Rattle.std.specs.declared.cmp.Ordering.TheVariants.{Less}
use Rattle.std.specs.Ordering.{is_lt, int_eq}
use Rattle.std.specs.List.{AllWithin}
use Rattle.life_cells.specs.declared.cell.Cell.{Cell}
use Rattle.life_cells.specs.Cells.{cell_cmp}
use Rattle.life_plane.specs.Plane.{Plane}
use Rattle.life_plane.specs.Apart.{Within}

-- a live cell in row y, at most two columns from x
pub record CloseInRow (s : Plane) (x y : ℤ) : Type 0 where
  pub a : ℤ
  pub lives : s a y ≡ true
  pub left : x ≤ℤ (a +ℤ pos 2)
  pub right : a ≤ℤ (x +ℤ pos 2)

-- is the cell in row y, and at most two columns from x
abbrev pub is_close_in_row : ℤ → ℤ → Cell → Bool
is_close_in_row x y c = int_eq c.y y && (int_le (x -ℤ pos 2) c.x && int_le c.x (x +ℤ pos 2))

-- what that test says
pub record IsCloseInRow (x y : ℤ) (c : Cell) : Type 0 where
  pub left : (x -ℤ pos 2) ≤ℤ c.x
  pub right : c.x ≤ℤ (x +ℤ pos 2)
  pub row : c.y ≡ y

-- i is the place of the first listed cell that does not come before c
pub record IsFirstFrom (cs : List Cell) (c : Cell) (i : ℕ) : Type 0 where
  pub within : i ≤ length cs
  pub before : AllWithin (λ d. cell_cmp d c ≡ Less) cs 0 i
  pub from : AllWithin (λ d. is_lt (cell_cmp d c) ≡ false) cs i (length cs)

-- a live cell within distance 2
pub record Close (s : Plane) (x y : ℤ) : Type 0 where
  pub a : ℤ
  pub b : ℤ
  pub lives : s a b ≡ true
  pub near : Within (pos 2) x y a b
