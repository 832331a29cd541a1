-- What stands beside lanes: for each lane the least u of the cells beside it.
use Rattle.std.specs.Prelude.{◌≡◌, Bool, true, cond, ◌&&◌, ℤ, pos, ◌+ℤ◌, ◌-ℤ◌, ◌≤ℤ◌, int_le, List, [], ◌∷◌}
use Rattle.std.specs.Int.{int_min}
use Rattle.std.specs.declared.option.Option.{Option}
use Rattle.std.specs.declared.option.Option.TheVariants.{Some, None}
use Rattle.std.specs.declared.hash.FoldHasher.{FoldHasher}
use Rattle.std.specs.declared.hash.BuildHasherDefault.{BuildHasherDefault}
use Rattle.std.specs.HashMap.{get, HashMap}
use Rattle.std.specs.Ordering.{int_eq}
use Rattle.life_plane.specs.Plane.{Plane}
use Rattle.life_plane.specs.Strips.{Each}
use Rattle.life_cells.specs.declared.cell.Cell.{Cell}

-- a number for each lane that something stands beside
abbrev pub ByLane : Type 0
ByLane = HashMap ℤ ℤ (BuildHasherDefault FoldHasher)

-- the cell is so near to a lane that no glider passes it there
pub record IsBeside (lane x y : ℤ) : Type 0 where
  pub low : (lane -ℤ pos 6) ≤ℤ (x +ℤ y)
  pub high : (x +ℤ y) ≤ℤ (lane +ℤ pos 5)

-- u is that of a live cell beside the lane, and no such cell has a lesser one
pub record IsLeastBeside (s : Plane) (lane u : ℤ) : Type 0 where
  pub x : ℤ
  pub y : ℤ
  pub lives : s x y ≡ true
  pub beside : IsBeside lane x y
  pub is : x -ℤ y ≡ u
  pub least : Each (λ a b. IsBeside lane a b → u ≤ℤ (a -ℤ b)) s

-- the least u of what lives beside a lane; none where nothing does
abbrev pub IsBarrier : Plane → ℤ → Option ℤ → Type 0
IsBarrier s lane None = Each (λ x y. IsBeside lane x y → ⊥) s
IsBarrier s lane (Some u) = IsLeastBeside s lane u

-- each lane has its barrier
abbrev pub AreBarriers : Plane → ByLane → Type 0
AreBarriers s barriers = (lane : ℤ) → IsBarrier s lane (get int_eq barriers lane)

-- ---- as cells are added

-- whether a cell is beside a lane
abbrev pub is_beside : ℤ → Cell → Bool
is_beside lane c = int_le (lane -ℤ pos 6) (c.x +ℤ c.y) && int_le (c.x +ℤ c.y) (lane +ℤ pos 5)

-- the lesser of a number and one that there may be
abbrev pub lesser_of : ℤ → Option ℤ → ℤ
lesser_of u None = u
lesser_of u (Some other) = int_min u other

-- a lane's number with a cell more
abbrev pub with_cell : ℤ → Option ℤ → Cell → Option ℤ
with_cell lane barrier c = cond (is_beside lane c) (Some (lesser_of (c.x -ℤ c.y) barrier)) barrier

-- and with the cells of a list
abbrev pub with_cells : ℤ → Option ℤ → List Cell → Option ℤ
with_cells lane barrier [] = barrier
with_cells lane barrier (c ∷ cs) = with_cells lane (with_cell lane barrier c) cs
