-- A valid kind: a still life in its place, behind the wall and before the stream.
use Rattle.life_cells.specs.declared.cell.Cell.{Cell}
use Rattle.life_cells.specs.Firsts.{IsFirstOf}
use Rattle.std.specs.Prelude.{◌≡◌, true, ℤ, pos, ◌+ℤ◌, ◌-ℤ◌, ◌*ℤ◌, ◌≤ℤ◌}
use Rattle.life_plane.specs.Plane.{Plane, IsStill}
use Rattle.recipe_turn.specs.declared.bounds.TheConstants.{KIND_MARGIN}
use Rattle.book_parts.specs.declared.settings.Settings.{Settings}

-- a cell that a kind may have: u = x - y is at most the wall, and v = x + y at least 10 less half the approach
pub record IsInPlace (settings : Settings) (x y : ℤ) : Type 0 where
  pub wall : (x -ℤ y) ≤ℤ settings.wall
  pub tail : KIND_MARGIN ≤ℤ (pos 2 *ℤ (x +ℤ y) +ℤ settings.approach)

-- each live cell is in place
pub record AreInPlace (settings : Settings) (s : Plane) : Type 0 where
  pub each : (x y : ℤ) → s x y ≡ true → IsInPlace settings x y

-- something lives
pub record Lives (s : Plane) : Type 0 where
  pub x : ℤ
  pub y : ℤ
  pub alive : s x y ≡ true

pub record IsValidKind (settings : Settings) (s : Plane) : Type 0 where
  pub lives : Lives s
  pub still : IsStill s
  pub place : AreInPlace settings s

-- the first live cell that is out of place
abbrev pub IsFirstOutOfPlace : Settings → Plane → Cell → Type 0
IsFirstOutOfPlace settings s first = IsFirstOf (λ x y. (s x y ≡ true) × (IsInPlace settings x y → ⊥)) first
